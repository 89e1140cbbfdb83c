use Rattle.std.specs.Prelude.{option_map}
use Rattle.setup_protocol.specs.State.{outcome_of}
use Rattle.channel_report.specs.Verdicts.{verdict_line}
use Rattle.text_writer.proofs.TextsTold.{nothing-told}
use Rattle.channel_report.proofs.request_lines.tell_verdict.Goals as goal

pub returns-in_err-push_verdict : goal.returns-in_err-push_verdict
returns-in_err-push_verdict g c = nothing-told c.from_residual.result (g.K.Sink.written c.args.sink.now) c.args.gather.now (g.K.Sink.faults c.args.sink.now) (verdict_line c.args.name (option_map outcome_of c.args.verdict.now)) c.from_residual.ensures.1
