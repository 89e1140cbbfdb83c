-- Faults of the outside. A source and a sink each count the faults that they met. The count starts at 0 and never
-- falls. A call that answers a fault says so by the count: it rose in that call. The counts of this crate stand still
-- at 2^64 - 1, the last value of their type, so a count that stands there counts as risen.
use Rattle.std.specs.Prelude.{ℕ, ◌+◌, ◌-◌, ◌^◌, ◌≤◌, min, List, Contains}

-- the count rose from a to b, or stands at its last value
pub record FaultsRise (a b : ℕ) : Type 0 where
  pub keeps : a ≤ b
  pub more : min (a + 1) (2 ^ 64 - 1) ≤ b

-- one fault more, for a count that stands still at its type's end
abbrev pub one_more : ℕ → ℕ
one_more a = min (a + 1) (2 ^ 64 - 1)

-- which calls of an object in memory are to fail, by their numbers from 1, how many calls were made, and how many
-- faults were met
pub record Plan : Type 0 where
  pub fails : List ℕ
  pub calls : ℕ
  pub faults : ℕ

-- the next call is one that is to fail
abbrev pub FailsNext : Plan → Type 0
FailsNext p = Contains p.fails (one_more p.calls)

-- one call was made
abbrev pub after_call : Plan → Plan
after_call p = record p { calls = one_more p.calls }

-- one fault was met
abbrev pub after_fault : Plan → Plan
after_fault p = record p { faults = one_more p.faults }
