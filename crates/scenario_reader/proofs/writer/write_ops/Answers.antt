use Rattle.std.proofs.Common.{refl}
use Rattle.scenario_reader.specs.line.Operation.{op_text}
use Rattle.text_writer.proofs.TextsTold.{item-failed, item-told}
use Rattle.scenario_reader.proofs.writer.write_ops.Goals as goal

pub returns-in_err-write_op : goal.returns-in_err-write_op
returns-in_err-write_op g c =
    item-failed (op_text c.args.links.now c.args.requests.now) c.args.ops.now c.loop-op.op-index c.op-item.result _ _ _ _ _ _ _ _ _ _ c.from_residual.result c.in_err-write_op.field-0.0 c.from_residual.ensures.1 c.loop-op-test.true c.op-item.is refl c.loop-op.invariant c.in_err-write_op.ensures

pub loop-op-preserved : goal.loop-op-preserved
loop-op-preserved g c =
    item-told (op_text c.args.links.now c.args.requests.now) c.args.ops.now c.loop-op.op-index c.op-item.result _ _ _ _ _ _ _ _ _ _ c.loop-op-test.true c.op-item.is refl c.loop-op.invariant c.in_ok-write_op.ensures
