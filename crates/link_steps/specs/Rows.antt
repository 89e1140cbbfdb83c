-- A row is a reservation with what its packets have made of it: the ticks at which they were eligible, which source
-- packets are planned, and which of these were dropped. A submit plans source packets at the channel's first hop, one
-- every gap from the link's clock on, and a release cancels those whose tick isn't made yet. Those whose tick was made
-- are what the source has offered, dropped ones included.
use Rattle.std.specs.Prelude.{ℕ, zero, suc, ◌+◌, Bool, nat_eq, nat_lt, nat_le, List, [], ◌∷◌, map, filter}
use Rattle.link_steps.specs.Reservation.{Reservation}

-- a planned source packet: its tick and its size in units
pub record SourcePacket : Type 0 where
  pub tick : ℕ
  pub size : ℕ

-- `lead` is the arrival number of the row's first packet, or 0 before it. The eligible ticks of its packets are
-- kept newest first, and so are the ticks of the source packets that were dropped. The plan is in order of time
pub record Row : Type 0 where
  pub terms : Reservation
  pub lead : ℕ
  pub ticks : List ℕ
  pub plan : List SourcePacket
  pub dropped : List ℕ

-- its reservation
abbrev pub row_terms : Row → Reservation
row_terms row = row.terms

-- a row without packets yet
abbrev pub new_row : Reservation → Row
new_row terms = record { terms = terms; lead = 0; ticks = []; plan = []; dropped = [] }

-- `count` packets of one size, the first at tick u and then one every gap
unfoldable pub planned_from : ℕ → ℕ → ℕ → ℕ → List SourcePacket
planned_from u gap size zero = []
planned_from u gap size (suc count) = record { tick = u; size = size } ∷ planned_from (u + gap) gap size count

-- whether it is planned for tick t, for a tick from t on, or for one before t
abbrev pub is_for : ℕ → SourcePacket → Bool
is_for t p = nat_eq p.tick t

abbrev pub is_from : ℕ → SourcePacket → Bool
is_from t p = nat_le t p.tick

abbrev pub is_before : ℕ → SourcePacket → Bool
is_before t p = nat_lt p.tick t

-- the planned packets that are left at clock t
abbrev pub left_at : ℕ → List SourcePacket → List SourcePacket
left_at t plan = filter (is_from t) plan

-- the planned packets whose tick was made by clock t
abbrev pub made_by : ℕ → List SourcePacket → List SourcePacket
made_by t plan = filter (is_before t) plan

-- its tick
abbrev pub tick_of : SourcePacket → ℕ
tick_of p = p.tick

-- the ticks at which a row's source has offered packets by clock t, in order of time, dropped ones included
abbrev pub offered_by : ℕ → Row → List ℕ
offered_by t row = map tick_of (made_by t row.plan)
