-- A link serves first the packet of the least level, of these the one that is eligible first, and of these the one that
-- arrived first: and so the packets stand in line. A best-effort packet has the level after the link's last,
-- so there are levels from 1 to 9.
use Rattle.std.specs.Prelude.{◌≡◌, ℕ, suc, ◌<◌, ◌≤◌, Bool, nat_lt, nat_eq, ◌&&◌, ◌||◌, List, [], ◌∷◌}
use Rattle.link_steps.specs.Lists.{Each}
use Rattle.link_server.specs.declared.queue.held_packet.HeldPacket.{HeldPacket}

-- whether one goes before another
abbrev pub stands_before : HeldPacket → HeldPacket → Bool
stands_before r s =
    nat_lt r.level s.level
    || (nat_eq r.level s.level && (nat_lt r.eligible s.eligible || (nat_eq r.eligible s.eligible && nat_lt r.place s.place)))

abbrev pub IsAtLevel : ℕ → HeldPacket → Type 0
IsAtLevel level packet = packet.level ≡ level

-- it is eligible by this tick
abbrev pub IsBy : ℕ → HeldPacket → Type 0
IsBy tick packet = packet.eligible ≤ tick

-- the first is eligible before the second, or in the same tick and arrived before it
abbrev pub IsSooner : HeldPacket → HeldPacket → Type 0
IsSooner r s = (r.eligible ≤ s.eligible) × (s.eligible ≤ r.eligible → r.place < s.place)

abbrev pub IsSoonerThanEach : List HeldPacket → HeldPacket → Type 0
IsSoonerThanEach packets r = Each (IsSooner r) packets

-- each arrived after the one before it
abbrev pub ArrivedBefore : HeldPacket → HeldPacket → Type 0
ArrivedBefore r s = r.place < s.place

-- it arrived after each of these
abbrev pub IsNewest : List HeldPacket → HeldPacket → Type 0
IsNewest packets r = Each (λ s. ArrivedBefore s r) packets

abbrev pub AreByArrival : List HeldPacket → Type 0
AreByArrival [] = Unit {0}
AreByArrival (r ∷ packets) = Each (ArrivedBefore r) packets × AreByArrival packets

-- each is ahead of those after it
abbrev pub AreByTick : List HeldPacket → Type 0
AreByTick [] = Unit {0}
AreByTick (r ∷ packets) = IsSoonerThanEach packets r × AreByTick packets

-- each queue has the packets of one level, in order, where the first of the queues is this level's
abbrev pub AreByLevel : ℕ → List (List HeldPacket) → Type 0
AreByLevel level [] = Unit {0}
AreByLevel level (queue ∷ queues) = Each (IsAtLevel level) queue × AreByTick queue × AreByLevel (suc level) queues
