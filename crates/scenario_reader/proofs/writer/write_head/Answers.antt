use Rattle.std.specs.List.{flat_map}
use Rattle.text_writer.specs.Lines.{whole_line}
use Rattle.scenario_reader.specs.line.Header.{header_fields}
use Rattle.scenario_reader.specs.line.Link.{link_text}
use Rattle.scenario_reader.specs.PlanText.{head_text}
use Rattle.text_writer.proofs.TextsTold.{both-told, first-failed}
use Rattle.scenario_reader.proofs.writer.write_head.Goals as goal

pub returns-in_err-tell_line : goal.returns-in_err-tell_line
unfolding head_text
returns-in_err-tell_line g c =
    let header = rw c.version.ensures at (c.in_err-tell_line.ensures.told (whole_line (header_fields c.version.result)) c.header_line.ensures) in
    first-failed c.from_residual.result c.in_err-tell_line.field-0.0 _ _ c.args.out.now c.tell_line.new.gather _ _ (whole_line (header_fields c.args.plan.now.version)) (flat_map link_text c.args.plan.now.links) c.from_residual.ensures.1 header

pub returns : goal.returns
unfolding head_text
returns g c =
    let header = rw c.version.ensures at (c.in_ok-tell_line.ensures.told (whole_line (header_fields c.version.result)) c.header_line.ensures) in
    let links = rw c.links.ensures.value at c.write_links.ensures in
    both-told c.write_links.result _ _ _ _ _ _ _ _ _ (whole_line (header_fields c.args.plan.now.version)) (flat_map link_text c.args.plan.now.links) header links
