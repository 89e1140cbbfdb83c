use Rattle.std.proofs.Common.{refl}
use Rattle.channel_report.specs.Moves.{op_line}
use Rattle.text_writer.proofs.TextsTold.{item-failed, item-told, all-told}
use Rattle.channel_report.proofs.move_lines.tell_script.Goals as goal

pub returns-in_err-tell_op : goal.returns-in_err-tell_op
returns-in_err-tell_op g c = λ run stand.
    let line = op_line c.args.plan.now run in
    item-failed line c.args.ops.now c.loop-op.op-index c.op-item.result (line c.op-item.result) _ (g.K.Sink.written c.loop-op.sink) _ c.args.gather.now c.loop-op.gather c.tell_op.new.gather _ (g.K.Sink.faults c.loop-op.sink) _
    c.from_residual.result c.in_err-tell_op.field-0.0 c.from_residual.ensures.1 c.loop-op-test.true c.op-item.is refl (c.loop-op.invariant run stand) (c.in_err-tell_op.ensures run stand)

pub loop-op-preserved : goal.loop-op-preserved
loop-op-preserved g c = λ run stand.
    let line = op_line c.args.plan.now run in
    item-told line c.args.ops.now c.loop-op.op-index c.op-item.result (line c.op-item.result) _ (g.K.Sink.written c.loop-op.sink) _ c.args.gather.now c.loop-op.gather c.tell_op.new.gather _ _ _ c.loop-op-test.true c.op-item.is refl
    (c.loop-op.invariant run stand) (c.in_ok-tell_op.ensures run stand)

pub returns : goal.returns
returns g c = λ run stand.
    all-told (op_line c.args.plan.now run) c.args.ops.now c.loop-op.op-index _ (g.K.Sink.written c.loop-op.sink) c.args.gather.now c.loop-op.gather _ _ c.loop-op-test.false (c.loop-op.invariant run stand)
