use Rattle.std.proofs.Common.{◌++◌, length, reverse}
use Rattle.channel_report.specs.Delays.{departures_of}
use Rattle.channel_report.specs.Channels.{channel_lines}
use Rattle.channel_report.specs.Moves.{move_lines}
use Rattle.channel_report.specs.Report.{end_line, link_lines, table_if}
use Rattle.text_writer.proofs.TextsTold.{first-failed, both-told}
use Rattle.channel_report.proofs.report.tell_moved.Goals as goal

pub returns-in_err-tell_moves : goal.returns-in_err-tell_moves
returns-in_err-tell_moves g c = λ entries found.
    first-failed c.from_residual.result c.in_err-tell_moves.field-0.0 _ _ c.args.gather.now c.tell_moves.new.gather _ _ (move_lines c.args.plan.now (reverse entries)) (channel_lines c.args.plan.now (departures_of entries) (reverse entries) ++ (link_lines c.args.plan.now (reverse entries) ++ (end_line (length entries) ++ table_if c.args.findings.now.packets c.args.plan.now entries))) c.from_residual.ensures.1
    (c.in_err-tell_moves.ensures (reverse entries) found.callers)

pub returns : goal.returns
returns g c = λ entries found.
    both-told c.tell_carried.result _ (g.K.Sink.written c.tell_moves.new.sink) _ c.args.gather.now c.tell_moves.new.gather c.tell_carried.new.gather _ (g.K.Sink.faults c.tell_moves.new.sink) _ (move_lines c.args.plan.now (reverse entries))
    (channel_lines c.args.plan.now (departures_of entries) (reverse entries) ++ (link_lines c.args.plan.now (reverse entries) ++ (end_line (length entries) ++ table_if c.args.findings.now.packets c.args.plan.now entries))) (c.in_ok-tell_moves.ensures (reverse entries) found.callers) (c.tell_carried.ensures entries found)
