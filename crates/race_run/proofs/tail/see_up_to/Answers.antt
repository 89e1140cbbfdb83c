use Rattle.std.proofs.Common.{ap, ◌∙◌}
use Rattle.link_ledger.specs.Tokens.{Token}
use Rattle.shared_network.proofs.CallSteps.CallsInTurn.{goes-both}
use Rattle.race_run.proofs.tail.see_up_to.Goals as goal

pub returns-then-steps_seen-stamp-clause-ready : goal.returns-then-steps_seen-stamp-clause-ready
returns-then-steps_seen-stamp-clause-ready g c =
    let so = c.loop.invariant in
    goes-both _ _ _ _ _ _ so.ready (c.steps_seen.ensures.ready so.ready.may_step)

pub loop-preserved : goal.loop-preserved
loop-preserved g c =
    let so = c.loop.invariant in
    let saw = c.steps_seen.ensures.saw in
    record {
      ready = goes-both _ _ _ _ _ _ so.ready (c.steps_seen.ensures.ready so.ready.may_step);
      actor = ap (λ (p : Token). p.actor) saw ∙ so.actor;
      own = ap (λ (p : Token). p.own) saw ∙ so.own;
    }
