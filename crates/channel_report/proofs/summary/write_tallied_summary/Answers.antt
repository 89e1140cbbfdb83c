-- What was found of the run is summed up.
use Rattle.std.proofs.Common.{reverse, ap, ◌∙◌}
use Rattle.channel_report.specs.Delays.{departures_of}
use Rattle.channel_report.specs.Summary.{summary_of, sums_of, told_summary}
use Rattle.text_writer.proofs.TextsTold.{nothing-written, unwritten}
use Rattle.channel_report.proofs.summary.write_tallied_summary.Goals as goal

pub sum_up-sums-requires : goal.sum_up-sums-requires
sum_up-sums-requires g c = (reverse c.requires.0, c.in_ok-findings.ensures.found c.requires.0 c.requires.1)

pub returns-in_err-findings : goal.returns-in_err-findings
returns-in_err-findings g c = λ run told. nothing-written c.from_residual.result (g.K.Sink.written c.args.sink.now) (g.K.Sink.faults c.args.sink.now) (summary_of c.args.number c.args.size c.args.plan.now (reverse run)) c.from_residual.ensures.1

pub returns-in_err-line : goal.returns-in_err-line
returns-in_err-line g c = λ run told. nothing-written c.from_residual-in_err-line.result (g.K.Sink.written c.args.sink.now) (g.K.Sink.faults c.args.sink.now) (summary_of c.args.number c.args.size c.args.plan.now (reverse run)) c.from_residual-in_err-line.ensures.1

pub returns-in_err-write_line : goal.returns-in_err-write_line
returns-in_err-write_line g c = λ run told.
    let entries = reverse run in
    let found = c.in_ok-findings.ensures.found run told in
    let text = c.as_bytes.ensures.value ∙ c.in_ok-line.ensures ∙ ap (λ sums. told_summary c.args.number c.args.size sums c.in_ok-findings.findings.steps) (c.sum_up-sums.ensures entries found)
    ∙ ap (told_summary c.args.number c.args.size (sums_of (departures_of entries) (reverse entries) c.args.plan.now.requests)) found.steps in
    unwritten c.from_residual-in_err-write_line.result _ _ _ _ _ c.from_residual-in_err-write_line.ensures.1 (rw text at c.in_err-write_line.ensures)

pub returns : goal.returns
returns g c = λ run told.
    let entries = reverse run in
    let found = c.in_ok-findings.ensures.found run told in
    let text = c.as_bytes.ensures.value ∙ c.in_ok-line.ensures ∙ ap (λ sums. told_summary c.args.number c.args.size sums c.in_ok-findings.findings.steps) (c.sum_up-sums.ensures entries found)
    ∙ ap (told_summary c.args.number c.args.size (sums_of (departures_of entries) (reverse entries) c.args.plan.now.requests)) found.steps in
    rw text at c.in_ok-write_line.ensures
