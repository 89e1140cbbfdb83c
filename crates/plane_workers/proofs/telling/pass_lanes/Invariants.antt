use Rattle.plane_workers.proofs.LanesHandOn.{HaveHandedTo}
use Rattle.plane_workers.proofs.telling.pass_lanes.Given as goal

-- the lanes so far have handed them on
abbrev pub invariant-loop-lane : goal.invariant-loop-lane
invariant-loop-lane l = HaveHandedTo l.clock l.ticks l.initial.lanes l.lanes l.lane-index
