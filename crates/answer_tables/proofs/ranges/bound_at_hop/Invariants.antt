use Rattle.std.proofs.Common.{ℕ, ◌<◌, ◌≤◌}
use Rattle.net_units.specs.LevelBounds.{bound_at}
use Rattle.answer_tables.proofs.ranges.bound_at_hop.Given as goal

-- the least of the bounds so far
abbrev pub invariant-loop-index : goal.invariant-loop-index
invariant-loop-index l = record {
  over : l.fn.ticks < l.least;
  most : l.least ≤ l.fn.other;
  least : (level : ℕ) → 1 ≤ level → level ≤ l.index → l.fn.ticks < bound_at l.hop.bounds level → l.least ≤ bound_at l.hop.bounds level;
}
