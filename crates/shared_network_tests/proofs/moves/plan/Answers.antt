use Rattle.std.proofs.Common.{length, sym, ap, ◌∙◌, subst, arith}
use Rattle.setup_protocol.specs.Laws.{is_accepted}
use Rattle.setup_protocol.specs.State.{outcome_of}
use Rattle.shared_network.specs.Calls.{HasNone}
use Rattle.shared_network.proofs.WorkedNetworks.{may-move}
use Rattle.shared_network_tests.proofs.moves.plan.Goals as goal

pub setup-requires-2-clause-new : goal.setup-requires-2-clause-new
setup-requires-2-clause-new g c κs within =
    let may = c.requires.may in
    let joined = c.args.requests.now.1 in
    c.in_ok-first.ensures.others.unopened joined.chan may.apart (subst (HasNone joined.chan) (sym may.new.own) tt)

pub returns-in-Planned : goal.returns-in-Planned
returns-in-Planned g c =
    let may = c.requires.may in
    let left = c.args.requests.now.0 in
    let joined = c.args.requests.now.1 in
    let first = c.in_ok-first.ensures in
    let second = c.in_ok-second.ensures in
    let sent = c.in_ok-sent.ensures in
    let one = first.drew in
    let two = second.drew in
    let three = sent.drew in
    let none = ap length may.new.drawn in
    record {
      may =
          may-move g.H.Home.table g.H.Home.owners g.H.Home.links left joined _ _ _ _ _ _ _ _ _ may first.made second.made sent.made sent.ready.may_step (omega (arith, one, two, three, none)) (sent.same.actor ∙ second.same.actor ∙ first.same.actor)
          (sent.established left (second.others.established left (λ same. may.apart (sym same)) (first.established (ap (λ v. is_accepted (outcome_of v)) c.in-Accepted.is))))
          (sent.established joined (second.established (ap (λ v. is_accepted (outcome_of v)) c.in-Accepted-second.is)));
    }
