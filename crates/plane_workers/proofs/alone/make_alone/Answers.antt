-- Some steps more, until the round begins. A run is too short for the loop to end before.
use Rattle.std.proofs.Common.{refl, ◌∙◌, arith}
use Rattle.plane_workers.proofs.StepsAddUp.{none-more, more-again, more-few, more-least}
use Rattle.plane_workers.proofs.alone.make_alone.Goals as goal

pub loop-init : goal.loop-init
loop-init g c = record { made = λ past stand. none-more g.W.Watch.saw c.args.plan.now c.args.engine.now c.args.watch.now past c.args.actor stand; table = refl }

pub make_some-requires-clause-stand : goal.make_some-requires-clause-stand
make_some-requires-clause-stand g c = (let more = c.loop.invariant.made c.requires.stand.0 c.requires.stand.1 in (more.plays.run, more.plays.stand))

pub make_some-requires-clause-left : goal.make_some-requires-clause-left
make_some-requires-clause-left g c =
    let at = c.round-round.ensures in
    let early = c.if-round-until.false in
    let all = c.requires.all in
    omega (arith, at, early, all)

pub returns-then-round-until-clause-plays : goal.returns-then-round-until-clause-plays
returns-then-round-until-clause-plays g c = λ past stand. more-least g.W.Watch.saw c.args.plan.now c.loop.engine c.loop.watch past c.args.actor c.loop.counter 0 (omega arith) (c.loop.invariant.made past stand)

pub loop-preserved : goal.loop-preserved
loop-preserved g c = record {
  made = λ past stand. more-again g.W.Watch.saw c.args.plan.now c.loop.engine c.make_some.new.engine c.loop.watch c.make_some.new.watch past c.args.actor c.loop.counter 1 (c.loop.invariant.made past stand) c.in_ok-more.ensures.plays;
  table = c.in_ok-more.ensures.table ∙ c.loop.invariant.table;
}

pub unreachable-requires : goal.unreachable-requires
unreachable-requires g c =
    let few = more-few g.W.Watch.saw c.args.plan.now c.args.engine.now c.loop.engine c.args.watch.now c.loop.watch c.requires.stand.0 c.args.actor c.loop.counter c.requires.stand.1 (c.loop.invariant.made c.requires.stand.0 c.requires.stand.1) in
    omega (arith, few, c.loop-test.false)
