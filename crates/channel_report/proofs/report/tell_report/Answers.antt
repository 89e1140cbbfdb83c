use Rattle.std.proofs.Common.{◌++◌, length, reverse}
use Rattle.channel_report.specs.Delays.{departures_of}
use Rattle.channel_report.specs.Channels.{channel_lines}
use Rattle.channel_report.specs.Report.{end_line, link_lines, request_lines, table_if}
use Rattle.channel_report.specs.Moves.{move_lines}
use Rattle.channel_report.specs.Routes.{route_lines}
use Rattle.text_writer.proofs.TextsTold.{first-failed, both-told}
use Rattle.channel_report.proofs.report.tell_report.Goals as goal

pub returns : goal.returns
returns g c = λ entries found.
    both-told c.tell_found.result _ (g.K.Sink.written c.tell_requests.new.sink) _ c.args.gather.now c.tell_requests.new.gather c.tell_found.new.gather _ (g.K.Sink.faults c.tell_requests.new.sink) _ (request_lines c.args.plan.now (reverse entries))
    (route_lines c.args.plan.now.links c.args.plan.now.requests ++ (move_lines c.args.plan.now (reverse entries) ++ (channel_lines c.args.plan.now (departures_of entries) (reverse entries) ++ (link_lines c.args.plan.now (reverse entries) ++ (end_line (length entries) ++ table_if c.args.findings.now.packets c.args.plan.now entries))))) (c.in_ok-tell_requests.ensures (reverse entries) found.run found.callers) (c.tell_found.ensures entries found)

pub returns-in_err-tell_requests : goal.returns-in_err-tell_requests
returns-in_err-tell_requests g c = λ entries found.
    first-failed c.from_residual.result c.in_err-tell_requests.field-0.0 _ _ c.args.gather.now c.tell_requests.new.gather _ _ (request_lines c.args.plan.now (reverse entries)) (route_lines c.args.plan.now.links c.args.plan.now.requests ++ (move_lines c.args.plan.now (reverse entries) ++ (channel_lines c.args.plan.now (departures_of entries) (reverse entries) ++ (link_lines c.args.plan.now (reverse entries) ++ (end_line (length entries) ++ table_if c.args.findings.now.packets c.args.plan.now entries))))) c.from_residual.ensures.1
    (c.in_err-tell_requests.ensures (reverse entries) found.run found.callers)
