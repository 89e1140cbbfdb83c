use Rattle.std.proofs.Common.{◌≤◌, ℕ}
use Rattle.net_units.specs.Numbers.{level_number}
use Rattle.link_fill.specs.Fills.{Holds}
use Rattle.link_fill.proofs.room.do_fit.Given as goal

-- the levels seen so far hold the rows
abbrev pub invariant-loop-index : goal.invariant-loop-index
invariant-loop-index l = (k : ℕ) → level_number l.fn.level ≤ k → k ≤ l.index → Holds l.share l.rows k
