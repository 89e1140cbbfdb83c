-- The tally has seen the run that was recorded.
use Rattle.std.proofs.Common.{reverse, ap, subst, ◌∙◌}
use Rattle.std.proofs.lemmas.List.{reverse-reverse}
use Rattle.channel_report.specs.Report.{report_of}
use Rattle.channel_report.specs.Tallied.{IsTalliedRun}
use Rattle.text_writer.specs.Telling.{WritesText}
use Rattle.channel_report.proofs.report.write_report.Goals as goal

pub write_tallied-requires : goal.write_tallied-requires
write_tallied-requires g c = (reverse c.args.run.now.entries, record { is_run = c.requires; stand = c.in_ok-callers.ensures.seen.stand; tallied = c.in_ok-callers.ensures.seen.seen })

pub returns : goal.returns
returns g c =
    let entries = c.args.run.now.entries in
    let told : IsTalliedRun c.args.plan.now c.in_ok-callers.callers c.replay_watched.new.watch (reverse entries) = record { is_run = c.requires; stand = c.in_ok-callers.ensures.seen.stand; tallied = c.in_ok-callers.ensures.seen.seen } in
    subst (WritesText c.write_tallied.result (g.K.Sink.written c.args.sink.now) (g.K.Sink.written c.write_tallied.new.sink) (g.K.Sink.faults c.args.sink.now) (g.K.Sink.faults c.write_tallied.new.sink))
    (ap (λ es. report_of c.args.plan.now es c.replay_watched.new.watch.packets) (reverse-reverse entries) ∙ ap (report_of c.args.plan.now entries) (c.in_ok-callers.ensures.table ∙ c.in_ok-tally.ensures.packets))
    (c.write_tallied.ensures (reverse entries) told)
