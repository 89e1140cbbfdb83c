use Rattle.std.proofs.Common.{refl}
use Rattle.scenario_reader.specs.line.Group.{group_text}
use Rattle.text_writer.proofs.TextsTold.{item-failed, item-told}
use Rattle.scenario_reader.proofs.writer.write_groups.Goals as goal

pub returns-in_err-tell_line : goal.returns-in_err-tell_line
returns-in_err-tell_line g c =
    item-failed group_text c.args.groups.now c.loop-name.name-index c.name-item.result _ _ _ _ _ _ _ _ _ _ c.from_residual.result c.in_err-tell_line.field-0.0 c.from_residual.ensures.1 c.loop-name-test.true c.name-item.is refl c.loop-name.invariant (c.in_err-tell_line.ensures.told (group_text c.name-item.result) c.group_line.ensures)

pub loop-name-preserved : goal.loop-name-preserved
loop-name-preserved g c =
    item-told group_text c.args.groups.now c.loop-name.name-index c.name-item.result _ _ _ _ _ _ _ _ _ _ c.loop-name-test.true c.name-item.is refl c.loop-name.invariant (c.in_ok-tell_line.ensures.told (group_text c.name-item.result) c.group_line.ensures)
