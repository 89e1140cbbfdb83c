-- One more link rests for as many ticks.
use Rattle.std.proofs.Common.{arith}
use Rattle.run_engine.proofs.Watched.RestedRounds.{least-more}
use Rattle.run_engine.proofs.links.ticks_at_rest.Goals as goal

pub loop-link-preserved : goal.loop-link-preserved
loop-link-preserved c =
    let least = c.min-ticks.ensures in
    let rest = c.saturating_sub.ensures in
    let clock = c.clock.ensures in
    let most = c.loop-link.invariant.most in
    record {
      most = omega (arith, least, most);
      rests = least-more c.args.links.now c.loop-link.link-index c.link-item.result c.rests_until.result c.loop-link.ticks c.min-ticks.result c.loop-link-test.true c.link-item.is c.rests_until.ensures (omega (arith, least)) (omega (arith, least, rest, clock)) c.loop-link.invariant.rests;
    }
