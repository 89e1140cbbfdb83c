use Rattle.std.proofs.Common.{◌++◌}
use Rattle.scenario_reader.specs.PlanText.{head_text, split_text, rest_text}
use Rattle.scenario_reader.proofs.Back.TextOfParts.{parts-text}
use Rattle.text_writer.proofs.TextsTold.{both-told, first-failed}
use Rattle.scenario_reader.proofs.writer.write_lines.Goals as goal

pub returns-in_err-write_head : goal.returns-in_err-write_head
returns-in_err-write_head g c =
    let parts = c.args.plan.now in
    rw (parts-text parts c.args.schedule.now) at
    (first-failed c.from_residual.result c.in_err-write_head.field-0.0 _ _ c.args.out.now c.write_head.new.out _ _ (head_text parts) (split_text parts.groups parts.links ++ rest_text parts c.args.schedule.now) c.from_residual.ensures.1 c.in_err-write_head.ensures)

pub returns-in_err-write_split : goal.returns-in_err-write_split
returns-in_err-write_split g c =
    let parts = c.args.plan.now in
    let split = rw (c.groups.ensures.value, c.links.ensures.value) at c.in_err-write_split.ensures in
    let failed = first-failed c.from_residual-in_err-write_split.result c.in_err-write_split.field-0.0 _ _ c.write_head.new.out c.write_split.new.out _ _ (split_text parts.groups parts.links) (rest_text parts c.args.schedule.now) c.from_residual-in_err-write_split.ensures.1 split in
    rw (parts-text parts c.args.schedule.now) at
    (both-told c.from_residual-in_err-write_split.result _ _ _ _ _ _ _ _ _ (head_text parts) (split_text parts.groups parts.links ++ rest_text parts c.args.schedule.now) c.in_ok-write_head.ensures failed)

pub returns : goal.returns
returns g c =
    let parts = c.args.plan.now in
    let split = rw (c.groups.ensures.value, c.links.ensures.value) at c.in_ok-write_split.ensures in
    let rest = both-told c.write_rest.result _ _ _ _ _ _ _ _ _ (split_text parts.groups parts.links) (rest_text parts c.args.schedule.now) split c.write_rest.ensures in
    rw (parts-text parts c.args.schedule.now) at
    (both-told c.write_rest.result _ _ _ _ _ _ _ _ _ (head_text parts) (split_text parts.groups parts.links ++ rest_text parts c.args.schedule.now) c.in_ok-write_head.ensures rest)
