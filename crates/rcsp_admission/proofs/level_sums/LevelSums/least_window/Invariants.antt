use Rattle.std.proofs.Common.{◌+◌, ◌-◌}
use Rattle.net_units.specs.Numbers.{level_number}
use Rattle.rcsp_admission.specs.Room.{NoneBefore}
use Rattle.rcsp_admission.specs.Sums.{admitted_rows}
use Rattle.rcsp_admission.proofs.level_sums.LevelSums.least_window.Given as goal

-- no window that fits lies before the one that is tried
abbrev pub invariant-loop-window : goal.invariant-loop-window
invariant-loop-window l = NoneBefore l.self.server (admitted_rows l.self.rows) l.contract (level_number l.level) l.window

abbrev pub decreases-loop-window : goal.decreases-loop-window
decreases-loop-window l = l.bound + 1 - l.window
