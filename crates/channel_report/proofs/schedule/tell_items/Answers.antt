use Rattle.std.proofs.Common.{refl}
use Rattle.channel_report.specs.Schedule.{item_line}
use Rattle.text_writer.proofs.TextsTold.{item-failed, item-told}
use Rattle.channel_report.proofs.schedule.tell_items.Goals as goal

pub returns-in_err-tell_item : goal.returns-in_err-tell_item
returns-in_err-tell_item g c =
    item-failed (item_line c.args.plan.now.callers) c.args.items.now c.loop-item.item-index c.item-item.result (item_line c.args.plan.now.callers c.item-item.result) _ (g.K.Sink.written c.loop-item.sink) _ c.args.gather.now c.loop-item.gather c.tell_item.new.gather _ (g.K.Sink.faults c.loop-item.sink) _
    c.from_residual.result c.in_err-tell_item.field-0.0 c.from_residual.ensures.1 c.loop-item-test.true c.item-item.is refl c.loop-item.invariant c.in_err-tell_item.ensures

pub loop-item-preserved : goal.loop-item-preserved
loop-item-preserved g c = item-told (item_line c.args.plan.now.callers) c.args.items.now c.loop-item.item-index c.item-item.result (item_line c.args.plan.now.callers c.item-item.result) _ (g.K.Sink.written c.loop-item.sink) _ c.args.gather.now c.loop-item.gather c.tell_item.new.gather _ _ _ c.loop-item-test.true c.item-item.is refl
    c.loop-item.invariant c.in_ok-tell_item.ensures
