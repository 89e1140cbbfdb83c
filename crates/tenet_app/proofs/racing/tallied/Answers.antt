use Rattle.std.proofs.Common.{sym, subst, ap, ◌∙◌}
use Rattle.std.proofs.lemmas.List.{reverse-reverse}
use Rattle.call_script.specs.Tasks.{network_of}
use Rattle.interleave_core.proofs.Channels.GuaranteeLaw.{plan-guaranteed}
use Rattle.interleave_core.specs.channels.Laws.{IsGuaranteedRun}
use Rattle.run_engine.specs.runs.Runs.{next_for}
use Rattle.run_engine.specs.schedules.Schedules.{IsPlayed}
use Rattle.race_run.specs.Whole.{weave_of}
use Rattle.tenet_app.proofs.racing.tallied.Goals as goal

pub returns-clause-race : goal.returns-clause-race
returns-clause-race c =
    let told = c.in_ok-told.ensures in
    let weave = weave_of c.args.closed.now.journals in
    let turned = reverse-reverse weave in
    record {
      whole = c.requires.whole;
      weave = turned;
      written = told.written;
      runs = told.runs;
      language = told.language;
      played = subst (IsPlayed (network_of c.args.plan.now) c.in_ok-told.told.schedule) (sym turned) told.played;
      over = λ actor. ap (next_for (network_of c.args.plan.now) actor) turned ∙ told.over actor;
      guaranteed = subst (IsGuaranteedRun c.args.plan.now) (sym turned) (plan-guaranteed c.args.plan.now weave c.links-valid.ensures.valid told.run);
    }

pub returns-clause-tallied : goal.returns-clause-tallied
returns-clause-tallied c =
    let told = c.in_ok-told.ensures in
    record { is_run = told.run; stand = told.seen.stand; tallied = told.seen.seen }

pub returns-clause-table : goal.returns-clause-table
returns-clause-table c = c.in_ok-told.ensures.table ∙ c.in_ok-tally.ensures.packets
