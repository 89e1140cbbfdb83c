use Rattle.std.proofs.Common.{length}
use Rattle.run_record.specs.Rows.{rows_of}
use Rattle.channel_report.specs.Report.{end_line, table_if}
use Rattle.channel_report.specs.Table.{table_of}
use Rattle.text_writer.proofs.TextsTold.{first-failed, both-told}
use Rattle.channel_report.proofs.report.tell_steps.Goals as goal

pub returns-in_err-tell_end : goal.returns-in_err-tell_end
returns-in_err-tell_end g c = λ entries found.
    first-failed c.from_residual.result c.in_err-tell_end.field-0.0 _ _ c.args.gather.now c.tell_end.new.gather _ _ (end_line (length entries)) (table_if c.args.findings.now.packets c.args.plan.now entries) c.from_residual.ensures.1 (rw found.steps at c.in_err-tell_end.ensures)

pub returns-then-findings : goal.returns-then-findings
returns-then-findings g c = λ entries found.
    rw c.if-findings.true
    (both-told c.tell_table.result _ (g.K.Sink.written c.tell_end.new.sink) _ c.args.gather.now c.tell_end.new.gather c.tell_table.new.gather _ (g.K.Sink.faults c.tell_end.new.sink) _ (end_line (length entries)) (table_of c.args.plan.now (rows_of entries))
    (rw found.steps at c.in_ok-tell_end.ensures) (rw (c.as_slice.ensures, found.rows c.if-findings.true) at c.tell_table.ensures))
