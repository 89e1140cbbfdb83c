use Rattle.std.proofs.Common.{sym, ap, subst}
use Rattle.setup_protocol.specs.Laws.{is_accepted}
use Rattle.setup_protocol.specs.State.{outcome_of}
use Rattle.link_ledger.specs.Tokens.{Token}
use Rattle.shared_network.specs.Calls.{IsEstablished}
use Rattle.shared_network.proofs.CallSteps.CallsInTurn.{goes-both}
use Rattle.shared_network_tests.proofs.calls.calls.Goals as goal

pub submit-requires-clause-pass : goal.submit-requires-clause-pass
submit-requires-clause-pass g c κs within = c.in_ok-verdict.ensures.ready.may_step

pub teardown-requires-clause-pass : goal.teardown-requires-clause-pass
teardown-requires-clause-pass g c κs within = (c.steps_seen-seen.ensures.ready c.in_ok-sent.ensures.ready.may_step).may_step

pub teardown-requires-clause-established : goal.teardown-requires-clause-established
teardown-requires-clause-established g c κs within =
    subst (λ (p : Token). IsEstablished c.args.request.now p.own) (sym c.steps_seen-seen.ensures.saw)
    (c.in_ok-sent.ensures.established c.args.request.now (c.in_ok-verdict.ensures.established (ap (λ v. is_accepted (outcome_of v)) c.in-Accepted.is)))

pub returns-clause-ready : goal.returns-clause-ready
returns-clause-ready g c =
    let both = goes-both g.H.Home.table g.H.Home.owners g.H.Home.links in
    both _ _ _ c.in_ok-verdict.ensures.ready (both _ _ _ c.in_ok-sent.ensures.ready (both _ _ _ (c.steps_seen-seen.ensures.ready c.in_ok-sent.ensures.ready.may_step) c.in_ok-count.ensures.ready))
