use Rattle.std.specs.List.{flat_map}
use Rattle.text_writer.specs.Lines.{whole_line}
use Rattle.scenario_reader.specs.line.Caller.{caller_fields}
use Rattle.scenario_reader.specs.line.Operation.{op_text}
use Rattle.scenario_reader.proofs.Back.TextOfParts.{caller-text}
use Rattle.text_writer.proofs.TextsTold.{both-told, first-failed}
use Rattle.scenario_reader.proofs.writer.write_caller.Goals as goal

pub returns-in_err-tell_line : goal.returns-in_err-tell_line
returns-in_err-tell_line g c =
    let line = rw c.groups.ensures.value at (c.in_err-tell_line.ensures.told (whole_line (caller_fields c.groups.result.now c.args.caller.now.name c.args.caller.now.group)) c.caller_line.ensures) in
    rw (caller-text c.args.plan.now.links c.args.plan.now.groups c.args.plan.now.requests c.args.caller.now) at
    (first-failed c.from_residual.result c.in_err-tell_line.field-0.0 _ _ c.args.out.now c.tell_line.new.gather _ _ (whole_line (caller_fields c.args.plan.now.groups c.args.caller.now.name c.args.caller.now.group)) (flat_map (op_text c.args.plan.now.links c.args.plan.now.requests) c.args.caller.now.ops) c.from_residual.ensures.1 line)

pub returns : goal.returns
returns g c =
    let line = rw c.groups.ensures.value at (c.in_ok-tell_line.ensures.told (whole_line (caller_fields c.groups.result.now c.args.caller.now.name c.args.caller.now.group)) c.caller_line.ensures) in
    let ops = rw (c.links.ensures.value, c.requests.ensures.value, c.as_slice.ensures) at c.write_ops.ensures in
    rw (caller-text c.args.plan.now.links c.args.plan.now.groups c.args.plan.now.requests c.args.caller.now) at
    (both-told c.write_ops.result _ _ _ _ _ _ _ _ _ (whole_line (caller_fields c.args.plan.now.groups c.args.caller.now.name c.args.caller.now.group)) (flat_map (op_text c.args.plan.now.links c.args.plan.now.requests) c.args.caller.now.ops) line ops)
