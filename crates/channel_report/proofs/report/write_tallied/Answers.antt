-- What was found of the run is told.
use Rattle.std.proofs.Common.{Ok, reverse, subst}
use Rattle.channel_report.specs.Report.{report_of}
use Rattle.text_writer.specs.Telling.{WritesText}
use Rattle.text_writer.proofs.TextsTold.{broken-off, end-failed, ended, nothing-written}
use Rattle.channel_report.proofs.report.write_tallied.Goals as goal

pub tell_report-requires : goal.tell_report-requires
tell_report-requires g c = (reverse c.requires.0, c.in_ok-findings.ensures.found c.requires.0 c.requires.1)

pub returns-in_err-findings : goal.returns-in_err-findings
returns-in_err-findings g c = λ run told. nothing-written c.from_residual.result (g.K.Sink.written c.args.sink.now) (g.K.Sink.faults c.args.sink.now) (report_of c.args.plan.now (reverse run) c.args.tally.packets) c.from_residual.ensures.1

pub returns-in_err-gather : goal.returns-in_err-gather
returns-in_err-gather g c = λ run told. nothing-written c.from_residual-in_err-gather.result (g.K.Sink.written c.args.sink.now) (g.K.Sink.faults c.args.sink.now) (report_of c.args.plan.now (reverse run) c.args.tally.packets) c.from_residual-in_err-gather.ensures.1

pub returns-in_err-tell_report : goal.returns-in_err-tell_report
returns-in_err-tell_report g c = λ run told.
    subst (λ packets. WritesText c.from_residual-in_err-tell_report.result (g.K.Sink.written c.args.sink.now) (g.K.Sink.written c.tell_report.new.sink) (g.K.Sink.faults c.args.sink.now) (g.K.Sink.faults c.tell_report.new.sink) (report_of c.args.plan.now (reverse run) packets)) c.in_ok-findings.ensures.packets
    (broken-off c.from_residual-in_err-tell_report.result c.in_err-tell_report.field-0.0 _ _ c.in_ok-gather.gather _ _ (report_of c.args.plan.now (reverse run) c.in_ok-findings.findings.packets) c.from_residual-in_err-tell_report.ensures.1 c.in_ok-gather.ensures
    (c.in_err-tell_report.ensures (reverse run) (c.in_ok-findings.ensures.found run told)))

pub returns-in_err-finish : goal.returns-in_err-finish
returns-in_err-finish g c = λ run told.
    let entries = reverse run in
    subst (λ packets. WritesText c.from_residual-in_err-finish.result (g.K.Sink.written c.args.sink.now) (g.K.Sink.written c.finish.new.sink) (g.K.Sink.faults c.args.sink.now) (g.K.Sink.faults c.finish.new.sink) (report_of c.args.plan.now entries packets)) c.in_ok-findings.ensures.packets
    (end-failed c.from_residual-in_err-finish.result _ (g.K.Sink.written c.tell_report.new.sink) _ c.tell_report.new.gather _ (g.K.Sink.faults c.tell_report.new.sink) _ (report_of c.args.plan.now entries c.in_ok-findings.findings.packets) c.from_residual-in_err-finish.ensures.1
    (rw c.in_ok-gather.ensures at (c.in_ok-tell_report.ensures entries (c.in_ok-findings.ensures.found run told))) c.in_err-finish.ensures)

pub returns : goal.returns
returns g c = λ run told.
    let entries = reverse run in
    subst (λ packets. WritesText {X = Unit {0}} (Ok tt) (g.K.Sink.written c.args.sink.now) (g.K.Sink.written c.finish.new.sink) (g.K.Sink.faults c.args.sink.now) (g.K.Sink.faults c.finish.new.sink) (report_of c.args.plan.now entries packets)) c.in_ok-findings.ensures.packets
    (ended _ (g.K.Sink.written c.tell_report.new.sink) _ c.tell_report.new.gather _ (g.K.Sink.faults c.tell_report.new.sink) _ (report_of c.args.plan.now entries c.in_ok-findings.findings.packets) (Ok tt)
    (rw c.in_ok-gather.ensures at (c.in_ok-tell_report.ensures entries (c.in_ok-findings.ensures.found run told))) c.in_ok-finish.ensures)
