use Rattle.std.proofs.Common.{◌++◌, length, reverse}
use Rattle.channel_report.specs.Delays.{departures_of}
use Rattle.channel_report.specs.Channels.{channel_lines}
use Rattle.channel_report.specs.Report.{end_line, link_lines, table_if}
use Rattle.text_writer.proofs.TextsTold.{first-failed, both-told}
use Rattle.channel_report.proofs.report.tell_carried.Goals as goal

pub returns-in_err-tell_channels : goal.returns-in_err-tell_channels
returns-in_err-tell_channels g c = λ entries found.
    first-failed c.from_residual.result c.in_err-tell_channels.field-0.0 _ _ c.args.gather.now c.tell_channels.new.gather _ _ (channel_lines c.args.plan.now (departures_of entries) (reverse entries)) (link_lines c.args.plan.now (reverse entries) ++ (end_line (length entries) ++ table_if c.args.findings.now.packets c.args.plan.now entries)) c.from_residual.ensures.1
    (c.in_err-tell_channels.ensures entries found)

pub returns : goal.returns
returns g c = λ entries found.
    both-told c.tell_network.result _ (g.K.Sink.written c.tell_channels.new.sink) _ c.args.gather.now c.tell_channels.new.gather c.tell_network.new.gather _ (g.K.Sink.faults c.tell_channels.new.sink) _ (channel_lines c.args.plan.now (departures_of entries) (reverse entries))
    (link_lines c.args.plan.now (reverse entries) ++ (end_line (length entries) ++ table_if c.args.findings.now.packets c.args.plan.now entries)) (c.in_ok-tell_channels.ensures entries found) (c.tell_network.ensures entries found)
