-- One more item, or the first that asks for a step that isn't left.
use Rattle.std.proofs.Common.{refl, ◌∙◌}
use Rattle.run_engine.proofs.Words.{network_of}
use Rattle.std.proofs.lemmas.Result.{err_from_is_err_and}
use Rattle.run_engine.proofs.Schedules.PlayedTurns.{items-stop}
use Rattle.run_engine.proofs.Watched.WatchedSteps.{items-begin, items-on}
use Rattle.run_engine.proofs.playing.play_items.Goals as goal

pub loop-item-init : goal.loop-item-init
loop-item-init g c = record { plays = items-begin g.W.Watch.saw c.args.plan.now c.args.engine.now c.args.watch.now c.requires.stand; table = refl }

pub play_item-requires-clause-stand : goal.play_item-requires-clause-stand
play_item-requires-clause-stand g c = (c.loop-item.invariant.plays.run, c.loop-item.invariant.plays.stand)

pub returns-in_err-play_item-clause-fault : goal.returns-in_err-play_item-clause-fault
returns-in_err-play_item-clause-fault g c =
    let p = err_from_is_err_and c.from_residual.result c.from_residual.ensures.1 in
    let plays = c.loop-item.invariant.plays in
    rw (p.1, p.2)
    (items-stop (network_of c.args.plan.now) plays.run c.args.items.now c.loop-item.item-index c.item-item.result c.in_err-play_item.field-0.0 c.loop-item-test.true c.item-item.is plays.follows (c.in_err-play_item.ensures.fault plays.run plays.stand))

pub loop-item-preserved : goal.loop-item-preserved
loop-item-preserved g c = record {
  plays = items-on g.W.Watch.saw c.args.plan.now c.loop-item.engine c.play_item.new.engine c.loop-item.watch c.play_item.new.watch c.args.items.now c.loop-item.item-index c.item-item.result c.loop-item-test.true c.item-item.is c.loop-item.invariant.plays c.in_ok-play_item.ensures.follows;
  table = c.in_ok-play_item.ensures.table ∙ c.loop-item.invariant.table;
}
