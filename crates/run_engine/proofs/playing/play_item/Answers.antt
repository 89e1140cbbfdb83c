-- Some turns more of the item, or its first that finds no step left.
use Rattle.std.proofs.Common.{◌+◌, ◌-◌, refl, ◌∙◌, arith}
use Rattle.run_engine.proofs.Words.{network_of}
use Rattle.run_engine.specs.declared.playing.PlayFault.TheVariants.{Step}
use Rattle.run_engine.proofs.Schedules.PlayedTurns.{item-stops}
use Rattle.run_engine.proofs.Watched.WatchedStrides.{none-made, plays-more, plays-same}
use Rattle.run_engine.proofs.Watched.WatchedSteps.{plays-none}
use Rattle.run_engine.proofs.playing.play_item.Goals as goal

pub loop-left-init : goal.loop-left-init
loop-left-init g c = record {
  few = omega arith;
  made = λ past stand. plays-same g.W.Watch.saw c.args.plan.now c.args.engine.now c.args.watch.now past c.args.item.now.actor 0 (c.args.item.now.count - c.args.item.now.count) (omega arith) (plays-none g.W.Watch.saw c.args.plan.now c.args.engine.now c.args.watch.now past c.args.item.now.actor stand);
  table = refl;
}

pub make_some-requires-clause-stand : goal.make_some-requires-clause-stand
make_some-requires-clause-stand g c = (let plays = c.loop-left.invariant.made c.requires.stand.0 c.requires.stand.1 in (plays.run, plays.stand))

pub loop-left-preserved : goal.loop-left-preserved
loop-left-preserved g c =
    let left = c.loop-left.left in
    let made = c.in_ok-made.made in
    let few = c.loop-left.invariant.few in
    let most = c.in_ok-made.ensures.most in
    record {
      few = omega (arith, few);
      made = λ past stand.
          plays-same g.W.Watch.saw c.args.plan.now c.make_some.new.engine c.make_some.new.watch past c.args.item.now.actor (c.args.item.now.count - left + made) (c.args.item.now.count - (left - made)) (omega (arith, few, most))
          (plays-more g.W.Watch.saw c.args.plan.now c.loop-left.engine c.make_some.new.engine c.loop-left.watch c.make_some.new.watch past c.args.item.now.actor (c.args.item.now.count - left) made (c.loop-left.invariant.made past stand) c.in_ok-made.ensures.plays);
      table = c.in_ok-made.ensures.table ∙ c.loop-left.invariant.table;
    }

pub returns-then-made-eq0-clause-fault : goal.returns-then-made-eq0-clause-fault
returns-then-made-eq0-clause-fault g c = λ past stand.
    let plays = c.loop-left.invariant.made past stand in
    let none = c.if-made-eq0.true in
    let few = c.loop-left.invariant.few in
    let some = c.loop-left-test.true in
    let now = none-made g.W.Watch.saw c.args.plan.now c.make_some.new.engine c.make_some.new.watch plays.run c.args.item.now.actor c.in_ok-made.made none (c.in_ok-made.ensures.plays plays.run plays.stand) in
    item-stops (network_of c.args.plan.now) past plays.run c.args.item.now (c.args.item.now.count - c.loop-left.left) (Step c.args.item.now.line c.steps_of.result) (omega (arith, few, some)) plays.follows
    (c.in_ok-made.ensures.over none plays.run plays.stand, refl, c.steps_of.ensures c.args.plan.now plays.run now.seen)
