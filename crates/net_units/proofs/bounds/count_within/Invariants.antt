use Rattle.std.proofs.Common.{◌≡◌, ◌+◌, drop}
use Rattle.net_units.specs.LevelBounds.{levels_within}
use Rattle.net_units.proofs.bounds.count_within.Given as goal

-- the levels so far are within x, and what is left adds its own
abbrev pub invariant-loop-bound : goal.invariant-loop-bound
invariant-loop-bound l = (l.count ≡ l.bound-index) × (levels_within l.bounds l.x ≡ l.count + levels_within (drop l.bound-index l.bounds) l.x)
