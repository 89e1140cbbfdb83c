use Rattle.std.proofs.Common.{refl}
use Rattle.scenario_reader.specs.line.Link.{link_text}
use Rattle.text_writer.proofs.TextsTold.{item-failed, item-told}
use Rattle.scenario_reader.proofs.writer.write_links.Goals as goal

pub returns-in_err-tell_line : goal.returns-in_err-tell_line
returns-in_err-tell_line g c =
    item-failed link_text c.args.links.now c.loop-entry.entry-index c.entry-item.result _ _ _ _ _ _ _ _ _ _ c.from_residual.result c.in_err-tell_line.field-0.0 c.from_residual.ensures.1 c.loop-entry-test.true c.entry-item.is refl c.loop-entry.invariant (c.in_err-tell_line.ensures.told (link_text c.entry-item.result) c.link_line.ensures)

pub loop-entry-preserved : goal.loop-entry-preserved
loop-entry-preserved g c =
    item-told link_text c.args.links.now c.loop-entry.entry-index c.entry-item.result _ _ _ _ _ _ _ _ _ _ c.loop-entry-test.true c.entry-item.is refl c.loop-entry.invariant (c.in_ok-tell_line.ensures.told (link_text c.entry-item.result) c.link_line.ensures)
