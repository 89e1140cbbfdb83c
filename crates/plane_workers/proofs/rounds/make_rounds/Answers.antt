-- No round yet, and then a part more.
use Rattle.std.proofs.Common.{◌≡◌, length, refl, ap, ◌∙◌, arith}
use Rattle.net_units.specs.Numbers.{actor_at}
use Rattle.call_script.proofs.PlansFit.{plan-fits, rounds-are}
use Rattle.call_script.specs.Tasks.{network_of}
use Rattle.run_engine.specs.schedules.Quiet.{the_plane}
use Rattle.run_engine.proofs.Keeping.NextStep.{callers-few, has-few}
use Rattle.plane_workers.proofs.GapLaw.{packets-take}
use Rattle.plane_workers.proofs.StepsAddUp.{none-more, more-again, more-out}
use Rattle.plane_workers.proofs.LinksAtDesks.{plane-end, plane-of-callers, plan-spaced}
use Rattle.plane_workers.proofs.rounds.make_rounds.Goals as goal

pub overflow_add-rounds : goal.overflow_add-rounds
overflow_add-rounds g c = (let few = (has-few c.args.plan.now c.requires.stand.1.stands.plan).rounds in let r = c.rounds.ensures.value in let t = c.tail.ensures.value in omega (arith, few, r, t))

pub actor_of-actor-requires : goal.actor_of-actor-requires
actor_of-actor-requires g c = (let same = ap length c.callers.ensures.value in let few = callers-few c.args.plan.now c.requires.stand.1.stands.plan in omega (arith, same, few))

pub loop-job-init : goal.loop-job-init
loop-job-init g c = record { made = λ past stand. none-more g.W.Watch.saw c.args.plan.now c.args.engine c.args.watch.now past c.actor_of-actor.result stand; gap = c.new-pace.ensures; table = refl }

pub make_part-requires-clause-job : goal.make_part-requires-clause-job
make_part-requires-clause-job g c κs within = record {
  plane = c.actor_of-actor.ensures ∙ plane-of-callers c.args.plan.now (length c.callers.result.now) (ap length c.callers.ensures.value);
  keeps = packets-take (network_of c.args.plan.now) c.least_gap-gap.result (plan-fits c.args.plan.now c.requires.stand.1.stands.plan) (plan-spaced c.args.plan.now c.least_gap-gap.result c.least_gap-gap.ensures.spaced);
  small = c.least_gap-gap.ensures.small;
  all = (let is = rounds-are c.args.plan.now in let r = c.rounds.ensures.value in let t = c.tail.ensures.value in omega (arith, is, r, t));
}

pub make_part-requires-clause-stand : goal.make_part-requires-clause-stand
make_part-requires-clause-stand g c κs within = (let more = c.loop-job.invariant.made c.requires.stand.0 c.requires.stand.1 in (more.plays.run, more.plays.stand))

pub make_part-requires-clause-early : goal.make_part-requires-clause-early
make_part-requires-clause-early g c κs within = (let at = c.round-round.ensures in let early = c.next-part.ensures.early in omega (arith, at, early))

pub make_part-requires-clause-near : goal.make_part-requires-clause-near
make_part-requires-clause-near g c κs within = λ several.
    let near = c.next-part.ensures.near several in
    let at = c.round-round.ensures in
    let gap = c.loop-job.invariant.gap in
    omega (arith, near, at, gap)

pub loop-job-preserved : goal.loop-job-preserved
loop-job-preserved g c = record {
  made = λ past stand. more-again g.W.Watch.saw c.args.plan.now c.loop-job.engine c.in_ok-made.made c.loop-job.watch c.make_part.new.watch past c.actor_of-actor.result 0 0 (c.loop-job.invariant.made past stand) c.in_ok-made.ensures.plays;
  gap = c.in_ok-made.ensures.gap;
  table = c.in_ok-made.ensures.table ∙ c.loop-job.invariant.table;
}

pub returns-clause-out : goal.returns-clause-out
returns-clause-out g c = λ past stand.
    let same = ap length c.callers.ensures.value in
    let is : c.actor_of-actor.result ≡ the_plane (network_of c.args.plan.now) = c.actor_of-actor.ensures ∙ plane-of-callers c.args.plan.now (length c.callers.result.now) same in
    let r = c.rounds.ensures.value in
    let t = c.tail.ensures.value in
    let all = rounds-are c.args.plan.now in
    let over = c.loop-job-test.false in
    let at = c.round.ensures in
    more-out g.W.Watch.saw c.args.plan.now c.loop-job.engine c.loop-job.watch past c.actor_of-actor.result (actor_at (length c.args.plan.now.callers)) (c.actor_of-actor.ensures ∙ ap actor_at same)
    (λ run now. plane-end c.args.plan.now c.loop-job.engine.actors.plane run c.actor_of-actor.result now.stands.plan now.stands.actors.plane is (omega (arith, r, t, all, over, at))) (c.loop-job.invariant.made past stand)
