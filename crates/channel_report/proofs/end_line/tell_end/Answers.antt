use Rattle.channel_report.specs.Report.{end_line}
use Rattle.text_writer.proofs.TextsTold.{nothing-told}
use Rattle.channel_report.proofs.end_line.tell_end.Goals as goal

pub returns-in_err-writeln : goal.returns-in_err-writeln
returns-in_err-writeln g c = nothing-told c.from_residual.result (g.K.Sink.written c.args.sink.now) c.args.gather.now (g.K.Sink.faults c.args.sink.now) (end_line c.args.steps) c.from_residual.ensures.1
