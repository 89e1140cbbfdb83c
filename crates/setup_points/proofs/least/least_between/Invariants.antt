use Rattle.std.proofs.Common.{◌-◌}
use Rattle.setup_points.specs.Least.{LiesBetween}
use Rattle.setup_points.proofs.least.least_between.Given as goal

abbrev pub decreases-loop-left : goal.decreases-loop-left
decreases-loop-left l = l.left.accepted - l.left.denied

abbrev pub invariant-loop-left : goal.invariant-loop-left
invariant-loop-left l = LiesBetween l.plan l.items l.question l.left
