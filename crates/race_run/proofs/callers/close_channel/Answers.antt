use Rattle.net_units.specs.Numbers.{channel_number}
use Rattle.call_script.specs.declared.operations.Op.TheVariants.{Close}
use Rattle.call_script.specs.declared.tasks.Task.TheVariants.{Closes}
use Rattle.shared_network.proofs.CallSteps.CallsInTurn.{goes-none}
use Rattle.race_run.proofs.Lists.{there, missing}
use Rattle.race_run.proofs.Operations.CloseOver.{close-owner, close-established, close-passed, close-over}
use Rattle.race_run.proofs.Operations.OperationAtPlace.{hops-of, looked-off, looked-on, none-passed, request-none}
use Rattle.race_run.proofs.callers.close_channel.Goals as goal

pub returns-in_default-clause-at : goal.returns-in_default-clause-at
returns-in_default-clause-at g c =
    let none = missing c.requests.result.now c.args.plan.now.requests c.get.result (channel_number c.args.chan) c.in_default.ensures.lookup.0 c.requests.ensures.value c.get.ensures.value in
    none-passed c.args.plan.now c.args.at.0 c.args.at.1 (Close c.args.chan) c.args.pass.now c.args.channels.now.by_number.items c.requires.at c.requires.op (request-none c.args.plan.now (λ request. Closes request) (channel_number c.args.chan) none)

pub returns-then-not-of-clause-at : goal.returns-then-not-of-clause-at
returns-then-not-of-clause-at g c =
    let found = there c.requests.result.now c.args.plan.now.requests c.get.result (channel_number c.args.chan) c.in-Some.entry.now c.in-Some.ensures.lookup.0 c.in-Some.ensures.lookup.1 c.requests.ensures.value c.get.ensures.value in
    close-passed c.args.plan.now c.args.at.0 c.args.at.1 c.args.chan c.in-Some.entry.now c.args.pass.now c.args.channels.now.by_number.items c.requests.ensures.valid c.requires.at c.requires.op found (looked-off c.args.channels.now.by_number.items c.in-Some.entry.now.request.chan c.of.result c.of.ensures c.if-not-of.true)

pub teardown-requires-clause-owned : goal.teardown-requires-clause-owned
teardown-requires-clause-owned g c κs within =
    let found = there c.requests.result.now c.args.plan.now.requests c.get.result (channel_number c.args.chan) c.in-Some.entry.now c.in-Some.ensures.lookup.0 c.in-Some.ensures.lookup.1 c.requests.ensures.value c.get.ensures.value in
    close-owner c.args.plan.now g.H.Home.links g.H.Home.owners c.args.at.0 c.args.at.1 c.args.chan c.in-Some.entry.now c.args.pass.now c.args.channels.now.by_number.items c.requests.ensures.valid c.requires.network c.requires.at c.requires.op found

pub teardown-requires-clause-hops : goal.teardown-requires-clause-hops
teardown-requires-clause-hops g c κs within =
    let found = there c.requests.result.now c.args.plan.now.requests c.get.result (channel_number c.args.chan) c.in-Some.entry.now c.in-Some.ensures.lookup.0 c.in-Some.ensures.lookup.1 c.requests.ensures.value c.get.ensures.value in
    hops-of c.args.plan.now g.H.Home.links g.H.Home.owners (channel_number c.args.chan) c.in-Some.entry.now c.requests.ensures.valid c.requires.network found

pub teardown-requires-clause-established : goal.teardown-requires-clause-established
teardown-requires-clause-established g c κs within =
    let found = there c.requests.result.now c.args.plan.now.requests c.get.result (channel_number c.args.chan) c.in-Some.entry.now c.in-Some.ensures.lookup.0 c.in-Some.ensures.lookup.1 c.requests.ensures.value c.get.ensures.value in
    close-established c.args.plan.now c.args.at.0 c.args.at.1 c.args.chan c.in-Some.entry.now c.args.pass.now c.args.channels.now.by_number.items c.requests.ensures.valid c.requires.at c.requires.op found (looked-on c.args.channels.now.by_number.items c.in-Some.entry.now.request.chan c.of.result c.of.ensures c.if-not-of.false)

pub returns-in-Ok-clause-at : goal.returns-in-Ok-clause-at
returns-in-Ok-clause-at g c =
    let found = there c.requests.result.now c.args.plan.now.requests c.get.result (channel_number c.args.chan) c.in-Some.entry.now c.in-Some.ensures.lookup.0 c.in-Some.ensures.lookup.1 c.requests.ensures.value c.get.ensures.value in
    close-over c.args.plan.now c.args.at.0 c.args.at.1 c.args.chan c.in-Some.entry.now c.in-Ok.field-0 c.args.pass.now c.teardown.new.pass c.args.channels.now.by_number.items c.requests.ensures.valid c.requires.at c.requires.op found (looked-on c.args.channels.now.by_number.items c.in-Some.entry.now.request.chan c.of.result c.of.ensures c.if-not-of.false)
    c.teardown.ensures.same.actor c.in-Ok.ensures.torn c.in-Ok.ensures.others

pub returns-in_default-clause-ready : goal.returns-in_default-clause-ready
returns-in_default-clause-ready g c = goes-none _ _ _ _ c.requires.pass

pub returns-then-not-of-clause-ready : goal.returns-then-not-of-clause-ready
returns-then-not-of-clause-ready g c = goes-none _ _ _ _ c.requires.pass
