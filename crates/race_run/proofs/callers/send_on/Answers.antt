use Rattle.net_units.specs.Numbers.{channel_number}
use Rattle.call_script.specs.declared.operations.Op.TheVariants.{Send}
use Rattle.shared_network.proofs.CallSteps.CallsInTurn.{goes-none}
use Rattle.race_run.proofs.Lists.{there, missing}
use Rattle.race_run.proofs.Operations.OperationAtPlace.{kept-inside, looked-off, looked-on, none-passed, send-none}
use Rattle.race_run.proofs.Operations.SendOver.{send-owner, send-there, send-fits, send-passed, send-over}
use Rattle.race_run.proofs.callers.send_on.Goals as goal

pub returns-in_default-clause-at : goal.returns-in_default-clause-at
returns-in_default-clause-at g c =
    let none = missing c.requests.result.now c.args.plan.now.requests c.get.result (channel_number c.args.packets.0) c.in_default.ensures.lookup.0 c.requests.ensures.value c.get.ensures.value in
    none-passed c.args.plan.now c.args.at.0 c.args.at.1 (Send c.args.packets.0 c.args.packets.1 c.args.packets.2 c.args.packets.3) c.args.pass.now c.args.channels.now.by_number.items c.requires.at c.requires.op (send-none c.args.plan.now c.args.packets.1 c.args.packets.2 c.args.packets.3 (channel_number c.args.packets.0) none)

pub returns-then-not-of-clause-at : goal.returns-then-not-of-clause-at
returns-then-not-of-clause-at g c =
    let found = there c.requests.result.now c.args.plan.now.requests c.get.result (channel_number c.args.packets.0) c.in-Some.entry.now c.in-Some.ensures.lookup.0 c.in-Some.ensures.lookup.1 c.requests.ensures.value c.get.ensures.value in
    send-passed c.args.plan.now c.args.at.0 c.args.at.1 c.args.packets.0 c.args.packets.1 c.args.packets.2 c.args.packets.3 c.in-Some.entry.now c.args.pass.now c.args.channels.now.by_number.items c.requests.ensures.valid c.requires.at c.requires.op found (looked-off c.args.channels.now.by_number.items c.in-Some.entry.now.request.chan c.of.result c.of.ensures c.if-not-of.true)

pub submit-requires-clause-link : goal.submit-requires-clause-link
submit-requires-clause-link g c κs within =
    let found = there c.requests.result.now c.args.plan.now.requests c.get.result (channel_number c.args.packets.0) c.in-Some.entry.now c.in-Some.ensures.lookup.0 c.in-Some.ensures.lookup.1 c.requests.ensures.value c.get.ensures.value in
    send-there c.args.plan.now g.H.Home.links g.H.Home.owners (channel_number c.args.packets.0) c.in-Some.entry.now c.hop.result c.requests.ensures.valid c.requires.network found c.hop.ensures.value

pub submit-requires-clause-fits : goal.submit-requires-clause-fits
submit-requires-clause-fits g c κs within =
    let found = there c.requests.result.now c.args.plan.now.requests c.get.result (channel_number c.args.packets.0) c.in-Some.entry.now c.in-Some.ensures.lookup.0 c.in-Some.ensures.lookup.1 c.requests.ensures.value c.get.ensures.value in
    send-fits c.args.plan.now g.H.Home.links c.args.at.0 c.args.at.1 c.args.packets.0 c.args.packets.1 c.args.packets.2 c.args.packets.3 c.in-Some.entry.now c.args.pass.now c.args.channels.now.by_number.items _ c.requests.ensures.valid c.requires.at c.requires.op found

pub submit-requires-clause-owned : goal.submit-requires-clause-owned
submit-requires-clause-owned g c κs within =
    let found = there c.requests.result.now c.args.plan.now.requests c.get.result (channel_number c.args.packets.0) c.in-Some.entry.now c.in-Some.ensures.lookup.0 c.in-Some.ensures.lookup.1 c.requests.ensures.value c.get.ensures.value in
    send-owner c.args.plan.now g.H.Home.links g.H.Home.owners c.args.at.0 c.args.at.1 c.args.packets.0 c.args.packets.1 c.args.packets.2 c.args.packets.3 c.in-Some.entry.now c.args.pass.now c.args.channels.now.by_number.items c.requests.ensures.valid c.requires.network c.requires.at c.requires.op found

pub answer-requires : goal.answer-requires
answer-requires g c =
    let found = there c.requests.result.now c.args.plan.now.requests c.get.result (channel_number c.args.packets.0) c.in-Some.entry.now c.in-Some.ensures.lookup.0 c.in-Some.ensures.lookup.1 c.requests.ensures.value c.get.ensures.value in
    kept-inside c.args.plan.now c.args.at.0 c.args.at.1 (channel_number c.args.packets.0) c.in-Some.entry.now c.args.pass.now c.args.channels.now.by_number.items c.requests.ensures.valid c.requires.at found

pub returns-clause-at : goal.returns-clause-at
returns-clause-at g c =
    let found = there c.requests.result.now c.args.plan.now.requests c.get.result (channel_number c.args.packets.0) c.in-Some.entry.now c.in-Some.ensures.lookup.0 c.in-Some.ensures.lookup.1 c.requests.ensures.value c.get.ensures.value in
    send-over c.args.plan.now c.args.at.0 c.args.at.1 c.args.packets.0 c.args.packets.1 c.args.packets.2 c.args.packets.3 c.in-Some.entry.now c.hop.result c.in-Ok.reply c.args.pass.now c.submit.new.pass c.args.channels.now.by_number.items c.answer.new.self.by_number.items c.requests.ensures.valid c.requires.at c.requires.op found
    (looked-on c.args.channels.now.by_number.items c.in-Some.entry.now.request.chan c.of.result c.of.ensures c.if-not-of.false) c.hop.ensures.value c.submit.ensures.same.actor c.in-Ok.ensures.made c.in-Ok.ensures.established c.in-Ok.ensures.unopened c.in-Ok.ensures.small c.answer.ensures.count c.answer.ensures.told

pub returns-in_default-clause-ready : goal.returns-in_default-clause-ready
returns-in_default-clause-ready g c = goes-none _ _ _ _ c.requires.pass

pub returns-then-not-of-clause-ready : goal.returns-then-not-of-clause-ready
returns-then-not-of-clause-ready g c = goes-none _ _ _ _ c.requires.pass
