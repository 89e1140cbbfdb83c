use Rattle.std.proofs.Common.{◌∙◌, arith}
use Rattle.shared_network.proofs.CallSteps.CallsInTurn.{goes-both, above-both}
use Rattle.race_run.proofs.rounds.make_rounds.Goals as goal

pub loop-plane-preserved : goal.loop-plane-preserved
loop-plane-preserved g c =
    let so = c.loop-plane.invariant in
    let made = c.in_ok-make_round.ensures in
    let round = made.round in
    let left = c.loop-plane-test.true in
    record {
      stands = made.stands;
      round = omega (arith, round, left, c.round.ensures);
      ready = goes-both _ _ _ _ _ _ so.ready made.ready;
      actor = made.actor ∙ so.actor;
      later = above-both _ c.args.pass.now c.loop-plane.pass c.make_round.new.pass so.later made.later;
    }
