-- The report of the tally is that of the schedule's run.
use Rattle.std.proofs.Common.{reverse, sym, subst}
use Rattle.std.proofs.lemmas.List.{reverse-reverse}
use Rattle.call_script.specs.Tasks.{network_of}
use Rattle.channel_report.specs.Report.{report_of}
use Rattle.run_engine.specs.schedules.Schedules.{IsPlayed}
use Rattle.interleave_core.specs.channels.Laws.{IsGuaranteedRun}
use Rattle.tenet_app.specs.Playing.{WritesReport}
use Rattle.tenet_app.proofs.WrittenAnswers.{of-report, of-missing}
use Rattle.tenet_app.proofs.working.answer.Goals as goal

pub report_tallied-requires : goal.report_tallied-requires
report_tallied-requires g c = (c.in-Ok.ensures.played.run, c.in-Ok.ensures.played.tallied)

pub returns-in-Ok-clause-answers : goal.returns-in-Ok-clause-answers
returns-in-Ok-clause-answers g c =
    let played = c.in-Ok.ensures.played in
    let turned = reverse-reverse played.run in
    of-report c.args.packets c.args.plan.now c.args.schedule.now (reverse played.run) c.report_tallied.result _ _ _ _ (subst (IsPlayed (network_of c.args.plan.now) c.args.schedule.now) (sym turned) played.played) (subst (IsGuaranteedRun c.args.plan.now) (sym turned) played.guaranteed)
    (subst (λ packets. WritesReport c.report_tallied.result (report_of c.args.plan.now (reverse played.run) packets) (g.K.Sink.written c.args.sink.now) (g.K.Sink.written c.report_tallied.new.sink) (g.K.Sink.faults c.args.sink.now) (g.K.Sink.faults c.report_tallied.new.sink)) c.in-Ok.ensures.table
    (c.report_tallied.ensures.reports played.run played.tallied))

pub returns-in-Err-Step-clause-answers : goal.returns-in-Err-Step-clause-answers
returns-in-Err-Step-clause-answers g c = of-missing c.args.packets c.args.plan.now c.args.schedule.now c.in-Err-Step.field-0 c.in-Err-Step.line c.in-Err-Step.field-0-1 c.refuse.result _ _ _ _ (c.in-Err-Step.field-0-is) c.in-Err-Step.ensures.fault c.refuse.ensures.tells
