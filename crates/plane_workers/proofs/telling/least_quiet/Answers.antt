-- One more lane hands on as many.
use Rattle.std.proofs.Common.{arith}
use Rattle.plane_workers.proofs.LanesHandOn.{least-next}
use Rattle.plane_workers.proofs.telling.least_quiet.Goals as goal

pub loop-lane-preserved : goal.loop-lane-preserved
loop-lane-preserved c =
    let least = c.min-ticks.ensures in
    let most = c.loop-lane.invariant.most in
    record {
      most = omega (arith, least, most);
      quiet = least-next c.args.clock c.args.lanes.now c.loop-lane.lane-index c.lane-item.result c.quiet_from.result c.loop-lane.ticks c.min-ticks.result c.loop-lane-test.true c.lane-item.is c.quiet_from.ensures (omega (arith, least)) (omega (arith, least)) c.loop-lane.invariant.quiet;
    }
