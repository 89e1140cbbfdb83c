-- The tally has seen the run that was recorded.
use Rattle.std.proofs.Common.{reverse, ap, subst}
use Rattle.std.proofs.lemmas.List.{reverse-reverse}
use Rattle.channel_report.specs.Summary.{summary_of}
use Rattle.channel_report.specs.Tallied.{IsTalliedRun}
use Rattle.text_writer.specs.Telling.{WritesText}
use Rattle.channel_report.proofs.summary.write_summary.Goals as goal

pub write_tallied_summary-requires : goal.write_tallied_summary-requires
write_tallied_summary-requires g c = (reverse c.args.run.now.entries, record { is_run = c.requires; stand = c.in_ok-callers.ensures.seen.stand; tallied = c.in_ok-callers.ensures.seen.seen })

pub returns : goal.returns
returns g c =
    let entries = c.args.run.now.entries in
    let told : IsTalliedRun c.args.plan.now c.in_ok-callers.callers c.replay_watched.new.watch (reverse entries) = record { is_run = c.requires; stand = c.in_ok-callers.ensures.seen.stand; tallied = c.in_ok-callers.ensures.seen.seen } in
    subst (WritesText c.write_tallied_summary.result (g.K.Sink.written c.args.sink.now) (g.K.Sink.written c.write_tallied_summary.new.sink) (g.K.Sink.faults c.args.sink.now) (g.K.Sink.faults c.write_tallied_summary.new.sink))
    (ap (summary_of c.args.number c.args.size c.args.plan.now) (reverse-reverse entries)) (c.write_tallied_summary.ensures (reverse entries) told)
