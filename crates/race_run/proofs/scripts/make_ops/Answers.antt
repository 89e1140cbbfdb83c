use Rattle.std.proofs.Common.{refl, ◌∙◌, arith}
use Rattle.shared_network.proofs.CallSteps.CallsInTurn.{goes-none, goes-both}
use Rattle.race_run.proofs.Operations.ScriptEnds.{script-ends}
use Rattle.race_run.proofs.scripts.make_ops.Goals as goal

pub loop-place-init : goal.loop-place-init
loop-place-init g c = record { at = c.requires.at; few = (let none = c.requires.drawn in omega (arith, none)); ready = goes-none _ _ _ _ c.requires.pass; actor = refl }

pub make_op-requires-clause-left : goal.make_op-requires-clause-left
make_op-requires-clause-left g c κs within =
    let ops = c.requires.all in
    record { entry = ops.entry; found = ops.found; inside = (let all = ops.all in let less = c.loop-place-test.true in omega (arith, all, less)) }

pub returns-clause-made : goal.returns-clause-made
returns-clause-made g c = script-ends c.args.plan.now c.args.all.0 c.loop-place.place c.args.all.1 c.loop-place.pass c.loop-place.channels.by_number.items c.loop-place.invariant.at c.requires.all c.loop-place-test.false

pub loop-place-preserved : goal.loop-place-preserved
loop-place-preserved g c =
    let so = c.loop-place.invariant in
    let made = c.in_ok-make_op.ensures in
    let few = so.few in
    let drew = made.drew in
    record { at = made.at; few = omega (arith, few, drew); ready = goes-both _ _ _ _ _ _ so.ready made.ready; actor = made.actor ∙ so.actor }
