-- A stride is a number of steps of the plane, and a step is one.
use Rattle.std.proofs.Common.{length, sym, ap, subst, arith}
use Rattle.call_script.specs.Tasks.{network_of}
use Rattle.call_script.proofs.PlansFit.{links-few}
use Rattle.run_engine.specs.schedules.Quiet.{the_plane}
use Rattle.run_engine.specs.schedules.Watching.{GoesOn}
use Rattle.run_engine.proofs.Watched.RestedRounds.{fewer-engine}
use Rattle.run_engine.proofs.Watched.WatchedStrides.{links-some}
use Rattle.plane_workers.proofs.StepsAddUp.{step-more, stride-more}
use Rattle.plane_workers.proofs.LinksAtDesks.{plane-left}
use Rattle.plane_workers.proofs.alone.make_some.Goals as goal

pub pass_gate-requires : goal.pass_gate-requires
pass_gate-requires g c = (let few = links-few c.args.plan.now c.requires.stand.1.stands.plan in let same = ap length c.links.ensures.value in omega (arith, few, same))

pub stride_watched-requires-clause-rests : goal.stride_watched-requires-clause-rests
stride_watched-requires-clause-rests g c =
    let least = c.min-rest.ensures in
    let some = c.if-rest-gt0.true in
    fewer-engine c.args.engine.now c.min-rest.result c.rounds_at_rest.result (omega (arith, least)) (c.rounds_at_rest.ensures (omega (arith, least, some)))

pub returns-then-rest-gt0-clause-plays : goal.returns-then-rest-gt0-clause-plays
returns-then-rest-gt0-clause-plays g c = λ past stand.
    let some = c.if-rest-gt0.true in
    stride-more g.W.Watch.saw c.args.plan.now c.stride_watched.new.engine c.stride_watched.new.watch past c.args.actor (the_plane (network_of c.args.plan.now)) c.min-rest.result (length c.args.plan.now.links) c.requires.actor (omega (arith, some)) (links-some c.args.plan.now stand.stands.plan)
    (c.in_ok-stride_watched.ensures.plays past stand)

pub unreachable-requires : goal.unreachable-requires
unreachable-requires g c =
    let over = c.in_ok-more.ensures.over c.if-more.false c.requires.stand.0 c.requires.stand.1 in
    plane-left c.args.plan.now c.args.engine.now.actors.plane c.requires.stand.0 c.args.actor c.requires.stand.1.stands.plan c.requires.stand.1.stands.actors.plane c.requires.actor c.requires.left
    (rw c.requires.actor over.none)

pub returns-then-more-clause-plays : goal.returns-then-more-clause-plays
returns-then-more-clause-plays g c = λ past stand.
    step-more g.W.Watch.saw c.args.plan.now c.make_plane_step.new.engine c.make_plane_step.new.watch past c.args.actor
    (subst (GoesOn g.W.Watch.saw c.args.plan.now c.make_plane_step.new.engine c.make_plane_step.new.watch past) (sym c.requires.actor) (c.in_ok-more.ensures.goes_on c.if-more.true past stand))
