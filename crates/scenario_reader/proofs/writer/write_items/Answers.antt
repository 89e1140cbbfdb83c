use Rattle.std.proofs.Common.{refl}
use Rattle.scenario_reader.specs.line.Schedule.{do_text}
use Rattle.text_writer.proofs.TextsTold.{item-failed, item-told}
use Rattle.scenario_reader.proofs.writer.write_items.Goals as goal

pub returns-in_err-tell_line : goal.returns-in_err-tell_line
returns-in_err-tell_line g c =
    item-failed (do_text c.args.callers.now) c.args.items.now c.loop-item.item-index c.item-item.result _ _ _ _ _ _ _ _ _ _ c.from_residual.result c.in_err-tell_line.field-0.0 c.from_residual.ensures.1 c.loop-item-test.true c.item-item.is refl c.loop-item.invariant (c.in_err-tell_line.ensures.told (do_text c.args.callers.now c.item-item.result) c.do_line.ensures)

pub loop-item-preserved : goal.loop-item-preserved
loop-item-preserved g c =
    item-told (do_text c.args.callers.now) c.args.items.now c.loop-item.item-index c.item-item.result _ _ _ _ _ _ _ _ _ _ c.loop-item-test.true c.item-item.is refl c.loop-item.invariant (c.in_ok-tell_line.ensures.told (do_text c.args.callers.now c.item-item.result) c.do_line.ensures)
