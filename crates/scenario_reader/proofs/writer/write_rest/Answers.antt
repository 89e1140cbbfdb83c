use Rattle.std.specs.List.{flat_map}
use Rattle.scenario_reader.specs.PlanText.{caller_text, end_text, rest_text}
use Rattle.text_writer.proofs.TextsTold.{both-told, first-failed}
use Rattle.scenario_reader.proofs.writer.write_rest.Goals as goal

pub returns-in_err-write_callers : goal.returns-in_err-write_callers
unfolding rest_text
returns-in_err-write_callers g c =
    let parts = c.args.plan.now in
    let callers = rw c.callers.ensures.value at c.in_err-write_callers.ensures in
    first-failed c.from_residual.result c.in_err-write_callers.field-0.0 _ _ c.args.out.now c.write_callers.new.out _ _ (flat_map (caller_text parts.links parts.groups parts.requests) parts.callers) (end_text parts c.args.schedule.now) c.from_residual.ensures.1 callers

pub returns : goal.returns
unfolding rest_text
returns g c =
    let parts = c.args.plan.now in
    let callers = rw c.callers.ensures.value at c.in_ok-write_callers.ensures in
    both-told c.write_end.result _ _ _ _ _ _ _ _ _ (flat_map (caller_text parts.links parts.groups parts.requests) parts.callers) (end_text parts c.args.schedule.now) callers c.write_end.ensures
