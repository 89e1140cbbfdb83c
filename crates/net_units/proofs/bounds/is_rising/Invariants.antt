use Rattle.std.proofs.Common.{◌≡◌, drop}
use Rattle.net_units.specs.LevelBounds.{rises_above}
use Rattle.net_units.proofs.bounds.is_rising.Given as goal

-- what is left rises above the last bound seen exactly where the whole list rises
abbrev pub invariant-loop-bound : goal.invariant-loop-bound
invariant-loop-bound l = rises_above 0 l.bounds ≡ rises_above l.low (drop l.bound-index l.bounds)
