use Rattle.std.proofs.Common.{◌≤◌, length, reverse, sym, ap, ◌∙◌, subst}
use Rattle.std.proofs.lemmas.List.{reverse-reverse}
use Rattle.call_script.specs.Tasks.{network_of}
use Rattle.run_engine.specs.runs.Runs.{IsRun}
use Rattle.race_run.specs.Turns.{AreMaximalRuns, actors_of}
use Rattle.race_run.proofs.Weave.RunByActors.{run-follows, run-items}
use Rattle.race_run.proofs.Weave.ScheduleCounts.{items-written}
use Rattle.race_run.proofs.Weave.ToldInOrder.{whole-few, woven-by}
use Rattle.race_run.proofs.Weave.WeaveIsRun.{whole-over, whole-run}
use Rattle.race_run.proofs.weaving.woven.Goals as goal

pub order_of-requires : goal.order_of-requires
order_of-requires c = subst (λ js. length js ≤ 32) (sym c.as_slice-journals.ensures) (whole-few c.args.plan.now c.args.closed.now.passes c.args.closed.now.journals c.links-valid.ensures.valid c.requires.whole)

pub returns-clause-weave : goal.returns-clause-weave
returns-clause-weave c = c.in_ok-items.ensures.seen ∙ woven-by c.as_slice-journals.result.now c.args.closed.now.journals c.in_ok-order.order.items c.as_slice.result.now c.as_slice-journals.ensures c.as_slice.ensures.value c.in_ok-order.ensures

pub returns-clause-runs : goal.returns-clause-runs
returns-clause-runs c =
    let entries = ap reverse (sym c.in_ok-items.ensures.seen) ∙ reverse-reverse c.tell.new.watch.entries in
    subst (AreMaximalRuns (actors_of c.tell.new.watch.entries)) (sym c.new.ensures) (subst (λ es. AreMaximalRuns (actors_of es) c.in_ok-items.items.items) entries c.in_ok-items.ensures.runs)

pub returns-clause-run : goal.returns-clause-run
returns-clause-run c = subst (IsRun (network_of c.args.plan.now)) (sym (returns-clause-weave c)) (whole-run (network_of c.args.plan.now) c.args.closed.now.passes c.args.closed.now.journals c.requires.whole)

pub returns-clause-actors : goal.returns-clause-actors
returns-clause-actors c = run-items c.args.plan.now c.tell.new.watch.entries c.new.result (returns-clause-runs c) (returns-clause-run c)

pub returns-clause-language : goal.returns-clause-language
returns-clause-language c = items-written c.args.plan.now c.tell.new.watch.entries c.new.result c.links-valid.ensures.valid (returns-clause-runs c) (returns-clause-run c) (returns-clause-actors c)

pub returns-clause-played : goal.returns-clause-played
returns-clause-played c = run-follows (network_of c.args.plan.now) c.tell.new.watch.entries c.new.result (returns-clause-runs c) (returns-clause-run c)

pub returns-clause-over : goal.returns-clause-over
returns-clause-over c actor = rw (returns-clause-weave c) (whole-over (network_of c.args.plan.now) c.args.closed.now.passes c.args.closed.now.journals actor c.requires.whole)
