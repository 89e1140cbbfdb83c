use Rattle.net_units.specs.Numbers.{channel_number}
use Rattle.setup_protocol.specs.State.{outcome_of}
use Rattle.call_script.specs.declared.operations.Op.TheVariants.{Open}
use Rattle.call_script.specs.declared.tasks.Task.TheVariants.{Opens}
use Rattle.shared_network.proofs.CallSteps.CallsInTurn.{goes-none}
use Rattle.race_run.proofs.Lists.{there, missing}
use Rattle.race_run.proofs.Operations.OperationAtPlace.{hops-of, kept-inside, none-passed, request-none}
use Rattle.race_run.proofs.Operations.OpenOver.{open-owner, open-new, open-over}
use Rattle.race_run.proofs.callers.open_channel.Goals as goal

pub setup-requires-clause-owned : goal.setup-requires-clause-owned
setup-requires-clause-owned g c κs within =
    let found = there c.requests.result.now c.args.plan.now.requests c.get.result (channel_number c.args.chan) c.in-Some.entry.now c.in-Some.ensures.lookup.0 c.in-Some.ensures.lookup.1 c.requests.ensures.value c.get.ensures.value in
    open-owner c.args.plan.now g.H.Home.links g.H.Home.owners c.args.at.0 c.args.at.1 c.args.chan c.in-Some.entry.now c.args.pass.now c.args.channels.now.by_number.items c.requests.ensures.valid c.requires.network c.requires.at c.requires.op found

pub setup-requires-clause-new : goal.setup-requires-clause-new
setup-requires-clause-new g c κs within =
    let found = there c.requests.result.now c.args.plan.now.requests c.get.result (channel_number c.args.chan) c.in-Some.entry.now c.in-Some.ensures.lookup.0 c.in-Some.ensures.lookup.1 c.requests.ensures.value c.get.ensures.value in
    open-new c.args.plan.now c.args.at.0 c.args.at.1 c.args.chan c.in-Some.entry.now c.args.pass.now c.args.channels.now.by_number.items c.requests.ensures.valid c.requires.at c.requires.op found

pub setup-requires-clause-hops : goal.setup-requires-clause-hops
setup-requires-clause-hops g c κs within =
    let found = there c.requests.result.now c.args.plan.now.requests c.get.result (channel_number c.args.chan) c.in-Some.entry.now c.in-Some.ensures.lookup.0 c.in-Some.ensures.lookup.1 c.requests.ensures.value c.get.ensures.value in
    hops-of c.args.plan.now g.H.Home.links g.H.Home.owners (channel_number c.args.chan) c.in-Some.entry.now c.requests.ensures.valid c.requires.network found

pub settle-requires : goal.settle-requires
settle-requires g c =
    let found = there c.requests.result.now c.args.plan.now.requests c.get.result (channel_number c.args.chan) c.in-Some.entry.now c.in-Some.ensures.lookup.0 c.in-Some.ensures.lookup.1 c.requests.ensures.value c.get.ensures.value in
    kept-inside c.args.plan.now c.args.at.0 c.args.at.1 (channel_number c.args.chan) c.in-Some.entry.now c.args.pass.now c.args.channels.now.by_number.items c.requests.ensures.valid c.requires.at found

pub returns-in_default-clause-at : goal.returns-in_default-clause-at
returns-in_default-clause-at g c =
    let none = missing c.requests.result.now c.args.plan.now.requests c.get.result (channel_number c.args.chan) c.in_default.ensures.lookup.0 c.requests.ensures.value c.get.ensures.value in
    none-passed c.args.plan.now c.args.at.0 c.args.at.1 (Open c.args.chan) c.args.pass.now c.args.channels.now.by_number.items c.requires.at c.requires.op (request-none c.args.plan.now (λ request. Opens request) (channel_number c.args.chan) none)

pub returns-clause-at : goal.returns-clause-at
returns-clause-at g c =
    let found = there c.requests.result.now c.args.plan.now.requests c.get.result (channel_number c.args.chan) c.in-Some.entry.now c.in-Some.ensures.lookup.0 c.in-Some.ensures.lookup.1 c.requests.ensures.value c.get.ensures.value in
    open-over c.args.plan.now c.args.at.0 c.args.at.1 c.args.chan c.in-Some.entry.now c.args.pass.now c.setup.new.pass c.args.channels.now.by_number.items c.settle.new.self.by_number.items (outcome_of c.in-Ok.verdict) c.requests.ensures.valid c.requires.at c.requires.op found
    (record { by = c.setup.ensures.same.actor; made = c.in-Ok.ensures.made; established = c.in-Ok.ensures.established; others = c.in-Ok.ensures.others }) c.settle.ensures.count c.settle.ensures.told

pub returns-in_default-clause-ready : goal.returns-in_default-clause-ready
returns-in_default-clause-ready g c = goes-none _ _ _ _ c.requires.pass
