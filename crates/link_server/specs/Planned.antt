-- The packets that are planned and left, of a source or best-effort ones, fall one every gap, and none of them is due
-- before the clock: what is planned for a tick is taken or dropped in that tick.
use Rattle.std.specs.Prelude.{ℕ, ◌≤◌, Option, Some, None, List, [], ◌∷◌}
use Rattle.link_steps.specs.Lists.{Each}
use Rattle.link_steps.specs.Rows.{SourcePacket, planned_from}
use Rattle.link_server.specs.declared.planned.Planned.{Planned}

-- the planned packets that are left
abbrev pub left_in : Planned → List SourcePacket
left_in planned = planned_from planned.tick planned.gap planned.size planned.count

-- none of them is planned for a tick before the clock
abbrev pub IsPlannedFrom : ℕ → SourcePacket → Type 0
IsPlannedFrom clock p = clock ≤ p.tick

-- all of them lie ahead
abbrev pub IsPlannedAhead : ℕ → Planned → Type 0
IsPlannedAhead clock planned = Each (IsPlannedFrom clock) (left_in planned)

-- the size of a packet, if there is one
abbrev pub size_of : Option SourcePacket → Option ℕ
size_of None = None
size_of (Some p) = Some p.size

-- the tick of the next of them, if there is one
abbrev pub first_tick : List SourcePacket → Option ℕ
first_tick [] = None
first_tick (p ∷ left) = Some p.tick
