use Rattle.std.proofs.Common.{◌≤◌, ◌<◌}
use Rattle.net_units.specs.Numbers.{level_number}
use Rattle.rcsp_admission.specs.Room.{NoneBefore}
use Rattle.rcsp_admission.specs.Sums.{admitted_rows}
use Rattle.rcsp_admission.proofs.level_sums.LevelSums.climb.Given as goal

-- no window that fits lies before the one that is tried, and each turn tries a later one
abbrev pub invariant-loop-turn : goal.invariant-loop-turn
invariant-loop-turn l =
    (l.from ≤ l.window) × (1 ≤ l._turn → l.from < l.window) × NoneBefore l.self.server (admitted_rows l.self.rows) l.contract (level_number l.level) l.window
