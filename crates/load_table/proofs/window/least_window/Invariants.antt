use Rattle.std.proofs.Common.{◌+◌, ◌-◌, ◌≤◌, ℕ}
use Rattle.net_units.specs.Numbers.{level_number}
use Rattle.load_table.specs.Loads.{load_in}
use Rattle.load_table.proofs.window.least_window.Given as goal

-- no shorter window holds the load
abbrev pub invariant-loop-window : goal.invariant-loop-window
invariant-loop-window l = record {
  some : 1 ≤ l.window;
  least : (v : ℕ) → 1 ≤ v → load_in l.link l.rows (level_number l.level) v ≤ v → l.window ≤ v;
}

abbrev pub decreases-loop-window : goal.decreases-loop-window
decreases-loop-window l = l.most + 1 - l.window
