use Rattle.std.proofs.Common.{◌≤◌, take}
use Rattle.link_steps.specs.Lists.{Each}
use Rattle.plane_workers.specs.Lanes.{IsQuietNext}
use Rattle.plane_workers.proofs.telling.least_quiet.Given as goal

-- the lanes so far hand on so many
abbrev pub invariant-loop-lane : goal.invariant-loop-lane
invariant-loop-lane l = record { most : l.ticks ≤ l.most; quiet : 1 ≤ l.ticks → Each (IsQuietNext l.clock l.ticks) (take l.lane-index l.lanes) }
