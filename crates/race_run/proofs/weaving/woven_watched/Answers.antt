use Rattle.std.proofs.Common.{◌≤◌, [], length, reverse, sym, subst}
use Rattle.std.proofs.lemmas.List.{reverse-reverse}
use Rattle.call_script.specs.Tasks.{network_of}
use Rattle.run_engine.specs.runs.Runs.{IsRun}
use Rattle.run_engine.specs.schedules.Schedules.{FollowsTurns, turns_of}
use Rattle.race_run.specs.Turns.{AreMaximalRuns, actors_of}
use Rattle.race_run.specs.Whole.{weave_of}
use Rattle.race_run.proofs.Weave.RunByActors.{run-follows, run-items}
use Rattle.race_run.proofs.Weave.ScheduleCounts.{items-written}
use Rattle.race_run.proofs.Weave.ToldInOrder.{whole-few, woven-by}
use Rattle.race_run.proofs.Weave.WeaveIsRun.{whole-over, whole-run}
use Rattle.race_run.proofs.weaving.woven_watched.Goals as goal

pub order_of-requires : goal.order_of-requires
order_of-requires g c = subst (λ js. length js ≤ 32) (sym c.as_slice-journals.ensures) (whole-few c.args.plan.now c.args.closed.now.passes c.args.closed.now.journals c.links-valid.ensures.valid c.requires.whole)

pub returns-clause-seen : goal.returns-clause-seen
returns-clause-seen g c =
    let told = woven-by c.as_slice-journals.result.now c.args.closed.now.journals c.in_ok-order.order.items c.as_slice-2.result.now c.as_slice-journals.ensures c.as_slice-2.ensures.value c.in_ok-order.ensures in
    record { stand = c.in_ok-callers.ensures; seen = subst (g.W.Watch.saw c.tell.new.watch c.args.plan.now) told c.in_ok-items.ensures.seen }

pub returns-clause-runs : goal.returns-clause-runs
returns-clause-runs g c =
    let told = woven-by c.as_slice-journals.result.now c.args.closed.now.journals c.in_ok-order.order.items c.as_slice-2.result.now c.as_slice-journals.ensures c.as_slice-2.ensures.value c.in_ok-order.ensures in
    subst (AreMaximalRuns (actors_of (reverse (weave_of c.args.closed.now.journals)))) (sym c.new.ensures) (subst (λ run. AreMaximalRuns (actors_of (reverse run)) c.in_ok-items.items.items) told c.in_ok-items.ensures.runs)

pub returns-clause-run : goal.returns-clause-run
returns-clause-run g c = whole-run (network_of c.args.plan.now) c.args.closed.now.passes c.args.closed.now.journals c.requires.whole

pub returns-clause-actors : goal.returns-clause-actors
returns-clause-actors g c =
    let turned = reverse-reverse (weave_of c.args.closed.now.journals) in
    run-items c.args.plan.now (reverse (weave_of c.args.closed.now.journals)) c.new.result (returns-clause-runs g c) (subst (IsRun (network_of c.args.plan.now)) (sym turned) (returns-clause-run g c))

pub returns-clause-language : goal.returns-clause-language
returns-clause-language g c =
    let turned = reverse-reverse (weave_of c.args.closed.now.journals) in
    items-written c.args.plan.now (reverse (weave_of c.args.closed.now.journals)) c.new.result c.links-valid.ensures.valid (returns-clause-runs g c) (subst (IsRun (network_of c.args.plan.now)) (sym turned) (returns-clause-run g c)) (returns-clause-actors g c)

pub returns-clause-played : goal.returns-clause-played
returns-clause-played g c =
    let turned = reverse-reverse (weave_of c.args.closed.now.journals) in
    subst (FollowsTurns (network_of c.args.plan.now) [] (turns_of c.new.result)) turned
    (run-follows (network_of c.args.plan.now) (reverse (weave_of c.args.closed.now.journals)) c.new.result (returns-clause-runs g c) (subst (IsRun (network_of c.args.plan.now)) (sym turned) (returns-clause-run g c)))

pub returns-clause-over : goal.returns-clause-over
returns-clause-over g c = λ actor. whole-over (network_of c.args.plan.now) c.args.closed.now.passes c.args.closed.now.journals actor c.requires.whole
