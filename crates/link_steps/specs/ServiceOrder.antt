-- The order in which packets start. A packet starts once it is eligible, and ahead of every other packet that is eligible by
-- then and hasn't started: none of a smaller level waits, and of its own level none that was eligible sooner, or as soon
-- with a smaller arrival number. So the packets of one level start in the order of their eligible ticks, and those of one
-- tick in the order in which they arrived.
use Rattle.std.specs.Prelude.{◌≡◌, ℕ, ◌<◌, ◌≤◌, false, List, [], ◌∷◌}
use Rattle.link_steps.specs.Lists.{Each}
use Rattle.link_steps.specs.Service.{Arrival, Start, has_started, starts_below}

-- p was eligible before q, or as soon and arrived before it
pub record IsSooner (p q : Arrival) : Type 0 where
  pub eligible : p.eligible ≤ q.eligible
  pub arrived : p.eligible ≡ q.eligible → p.place < q.place

-- p is of a smaller level than q, or of its level and sooner
pub record IsAhead (p q : Arrival) : Type 0 where
  pub level : p.level ≤ q.level
  pub sooner : p.level ≡ q.level → IsSooner p q

-- a packet that is eligible by a start, and hasn't started with it or before, comes after the packet that starts
abbrev pub ComesBehind : Start → List Start → Arrival → Type 0
ComesBehind start earlier q = q.eligible ≤ start.tick → has_started (start ∷ earlier) q ≡ false → IsAhead start.packet q

-- each of the starts, newest first, is of an eligible packet, and the other packets come after it
abbrev pub AreByPriority : List Arrival → List Start → Type 0
AreByPriority packets [] = Unit {0}
AreByPriority packets (start ∷ earlier) = (start.packet.eligible ≤ start.tick) × Each (ComesBehind start earlier) packets × AreByPriority packets earlier

-- where another start is of the same level, its packet is sooner
abbrev pub GoesBehind : Start → Start → Type 0
GoesBehind start other = other.packet.level ≡ start.packet.level → IsSooner other.packet start.packet

-- so each of the starts, newest first, goes after the earlier ones
abbrev pub AreInTurn : List Start → Type 0
AreInTurn [] = Unit {0}
AreInTurn (start ∷ earlier) = Each (GoesBehind start) earlier × AreInTurn earlier

-- the service of every list of packets starts them by priority, and those of one level in turn
pub record ServesInOrder (rate : ℕ) (packets : List Arrival) (t : ℕ) : Type 0 where
  pub by_priority : AreByPriority packets (starts_below rate packets t)
  pub in_turn : AreInTurn (starts_below rate packets t)

abbrev pub PacketsStartInOrder : Type 0
PacketsStartInOrder = (rate : ℕ) (packets : List Arrival) (t : ℕ) → ServesInOrder rate packets t
