use Rattle.std.proofs.Common.{◌≡◌, ◌+◌, ◌⊎◌, ◌∙◌, subst, arith}
use Rattle.tick_plane.specs.PlaneAccount.{PlaneAccount}
use Rattle.call_script.specs.Tasks.{network_of}
use Rattle.race_run.proofs.PieceSteps.PlaneWithPass.{early-next}
use Rattle.shared_network.proofs.CallSteps.CallsInTurn.{goes-both, above-both}
use Rattle.race_run.proofs.rounds.make_round.Goals as goal

pub loop-plane-preserved : goal.loop-plane-preserved
loop-plane-preserved g c =
    let so = c.loop-plane.invariant in
    let made = c.in_ok-make_step.ensures in
    let plane : PlaneAccount = c.make_step.new.plane in
    let here : c.loop-plane.plane.at.round ≡ c.round-round.result = omega (arith, c.round.ensures, c.loop-plane-test.true) in
    record {
      on = made.on;
      round = subst (λ n. (plane.at.round ≡ n) ⊎ ((plane.at.round ≡ n + 1) × (plane.at.ticked ≡ 0))) here made.stepped.round;
      early = early-next (network_of c.args.plan.now) c.loop-plane.plane c.loop-plane.pass c.make_step.new.pass (c.round-round.result + 1) so.on made.one (omega (arith, here)) so.early;
      ready = goes-both _ _ _ _ _ _ so.ready made.ready;
      actor = made.actor ∙ so.actor;
      later = above-both _ c.args.pass.now c.loop-plane.pass c.make_step.new.pass so.later made.later;
    }
