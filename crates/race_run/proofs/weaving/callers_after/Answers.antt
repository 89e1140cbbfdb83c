use Rattle.std.proofs.Common.{length, map, take, sym, ap, ◌∙◌, subst, arith}
use Rattle.std.proofs.lemmas.List.{length-append}
use Rattle.link_steps.specs.Lists.{Each}
use Rattle.call_script.specs.Tasks.{network_of}
use Rattle.run_engine.specs.runs.Runs.{IsRun}
use Rattle.run_engine.specs.schedules.Standing.{AreCallers}
use Rattle.race_run.specs.Order.{HasOrder}
use Rattle.race_run.specs.Tail.{AreUpTo, own_in}
use Rattle.race_run.specs.Telling.{weave_below}
use Rattle.race_run.proofs.Weave.ToldInOrder.{callers-after, callers-inside, front-has, run-front}
use Rattle.race_run.proofs.weaving.callers_after.Goals as goal

pub slice_bounds-latest_of_all-end : goal.slice_bounds-latest_of_all-end
slice_bounds-latest_of_all-end c =
    callers-inside c.args.plan.now c.args.closed.now.passes c.args.closed.now.journals (length c.callers.result.now) c.as_slice-passes.result.now c.requires.whole c.as_slice-passes.ensures (ap length c.callers.ensures.value)

pub tell-requires-clause-order : goal.tell-requires-clause-order
tell-requires-clause-order c =
    let front = c.front_to-front.ensures.front in
    subst (λ js. HasOrder js c.front_to-front.result.now) (sym c.as_slice.ensures) (front-has c.args.closed.now.journals c.args.order.now c.front_to-front.result.now front.0 c.requires.order.has front.1)

pub replay-requires : goal.replay-requires
replay-requires c =
    let told = c.in_ok-tell.ensures.seen ∙ ap (weave_below (length c.front_to-front.result.now)) c.as_slice.ensures in
    subst (IsRun (network_of c.args.plan.now)) (sym told) (run-front (network_of c.args.plan.now) c.args.closed.now.passes c.args.closed.now.journals (length c.front_to-front.result.now) c.requires.whole)

pub returns : goal.returns
returns c =
    let front = c.front_to-front.ensures.front in
    let parts = c.args.plan.now in
    let told = c.in_ok-tell.ensures.seen ∙ ap (weave_below (length c.front_to-front.result.now)) c.as_slice.ensures in
    let long = ap length front.1 ∙ length-append c.front_to-front.result.now front.0 in
    let upto = subst (λ ps. Each (AreUpTo c.latest_of_all-latest.result) (map own_in (take (length parts.callers) ps))) c.as_slice-passes.ensures
    (subst (λ n. Each (AreUpTo c.latest_of_all-latest.result) (map own_in (take n c.as_slice-passes.result.now))) (ap length c.callers.ensures.value) c.latest_of_all-latest.ensures) in
    callers-after parts c.args.closed.now.passes c.args.closed.now.journals c.in_ok-callers.callers.by_number.items c.latest_of_all-latest.result (length c.front_to-front.result.now) c.args.order.now c.requires.whole c.requires.order upto (omega (arith, long)) c.front_to-front.ensures.long
    (subst (AreCallers parts c.in_ok-callers.callers.by_number.items) told c.in_ok-callers.ensures)
