use Rattle.channel_report.specs.Links.{told_link}
use Rattle.text_writer.proofs.TextsTold.{nothing-told}
use Rattle.channel_report.proofs.link_lines.tell_link.Goals as goal

pub returns-in_err-push_link : goal.returns-in_err-push_link
returns-in_err-push_link g c = λ h is. nothing-told c.from_residual.result (g.K.Sink.written c.args.sink.now) c.args.gather.now (g.K.Sink.faults c.args.sink.now) (told_link c.args.name c.args.best h) c.from_residual.ensures.1
