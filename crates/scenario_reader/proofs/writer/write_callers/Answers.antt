use Rattle.std.proofs.Common.{refl}
use Rattle.scenario_reader.specs.PlanText.{caller_text}
use Rattle.text_writer.proofs.TextsTold.{item-failed, item-told}
use Rattle.scenario_reader.proofs.writer.write_callers.Goals as goal

pub returns-in_err-write_caller : goal.returns-in_err-write_caller
returns-in_err-write_caller g c =
    item-failed (caller_text c.args.plan.now.links c.args.plan.now.groups c.args.plan.now.requests) c.args.callers.now c.loop-caller.caller-index c.caller-item.result _ _ _ _ _ _ _ _ _ _ c.from_residual.result c.in_err-write_caller.field-0.0 c.from_residual.ensures.1 c.loop-caller-test.true c.caller-item.is refl c.loop-caller.invariant c.in_err-write_caller.ensures

pub loop-caller-preserved : goal.loop-caller-preserved
loop-caller-preserved g c =
    item-told (caller_text c.args.plan.now.links c.args.plan.now.groups c.args.plan.now.requests) c.args.callers.now c.loop-caller.caller-index c.caller-item.result _ _ _ _ _ _ _ _ _ _ c.loop-caller-test.true c.caller-item.is refl c.loop-caller.invariant c.in_ok-write_caller.ensures
