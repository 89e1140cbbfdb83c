-- The summary of the tally is that of the run by turns.
use Rattle.std.proofs.Common.{reverse, sym, subst}
use Rattle.std.proofs.lemmas.List.{reverse-reverse}
use Rattle.call_script.specs.Tasks.{network_of}
use Rattle.channel_report.specs.Tallied.{IsTalliedRun}
use Rattle.interleave_core.proofs.Channels.GuaranteeLaw.{plan-guaranteed}
use Rattle.interleave_core.specs.channels.Laws.{IsGuaranteedRun}
use Rattle.load_maker.specs.TurnRuns.{IsTurnsRun}
use Rattle.tenet_app.proofs.LoadDue.{plan-summarized}
use Rattle.tenet_app.proofs.making.summarize.Goals as goal

pub write_tallied_summary-requires : goal.write_tallied_summary-requires
write_tallied_summary-requires g c =
    let made = c.in_ok-callers.ensures.turns in
    (made.run, record { is_run = made.turns.run_is; stand = made.seen.stand; tallied = made.seen.seen })

pub returns-clause-summarizes : goal.returns-clause-summarizes
returns-clause-summarizes g c =
    let made = c.in_ok-callers.ensures.turns in
    let turned = reverse-reverse made.run in
    let told : IsTalliedRun c.in_ok-plan.plan c.in_ok-callers.callers c.take_watched_turns.new.watch made.run = record { is_run = made.turns.run_is; stand = made.seen.stand; tallied = made.seen.seen } in
    plan-summarized c.args.number c.args.size c.in_ok-plan.plan (reverse made.run) c.write_tallied_summary.result _ _ _ _ c.in_ok-plan.ensures.plan (subst (IsTurnsRun (network_of c.in_ok-plan.plan)) (sym turned) made.turns) (subst (IsGuaranteedRun c.in_ok-plan.plan) (sym turned) (plan-guaranteed c.in_ok-plan.plan made.run made.plan made.turns.run_is))
    (c.write_tallied_summary.ensures made.run told)
