use Rattle.std.proofs.Common.{List, ◌∷◌, ◌∙◌, subst, inl, inr}
use Rattle.net_units.specs.Numbers.{channel_number}
use Rattle.channel_move.specs.Moving.{Move as Moving}
use Rattle.channel_move.specs.Standing.{move_of}
use Rattle.call_script.specs.Scripts.{Learnt, MovedTo, move_between}
use Rattle.call_script.specs.declared.operations.Op.TheVariants.{Move}
use Rattle.shared_network.specs.Calls.{OthersStay}
use Rattle.call_script.specs.Channels.{AreTold}
use Rattle.call_script.specs.declared.channels.Channel.{Channel}
use Rattle.shared_network.proofs.CallSteps.CallsInTurn.{goes-none}
use Rattle.race_run.proofs.Lists.{there, missing}
use Rattle.race_run.proofs.Operations.MoveOver.{move-none, move-none-new, move-passed, may-shift, move-over}
use Rattle.race_run.proofs.Operations.OperationAtPlace.{kept-inside, looked-off, looked-on, none-passed}
use Rattle.race_run.proofs.callers.move_packets.Goals as goal

pub returns-in_default-clause-at : goal.returns-in_default-clause-at
returns-in_default-clause-at g c =
    let none = missing c.requests.result.now c.args.plan.now.requests c.get.result (channel_number c.args.chans.0) c.in_default.ensures.lookup.0 c.requests.ensures.value c.get.ensures.value in
    none-passed c.args.plan.now c.args.at.0 c.args.at.1 (Move c.args.chans.0 c.args.chans.1) c.args.pass.now c.args.channels.now.by_number.items c.requires.at c.requires.op (move-none c.args.plan.now c.args.chans.0 c.args.chans.1 none)

pub returns-in_default-get-clause-at : goal.returns-in_default-get-clause-at
returns-in_default-get-clause-at g c =
    let none = missing c.requests-2.result.now c.args.plan.now.requests c.get-3.result (channel_number c.args.chans.1) c.in_default-get.ensures.lookup.0 c.requests-2.ensures.value c.get-3.ensures.value in
    none-passed c.args.plan.now c.args.at.0 c.args.at.1 (Move c.args.chans.0 c.args.chans.1) c.args.pass.now c.args.channels.now.by_number.items c.requires.at c.requires.op (move-none-new c.args.plan.now c.args.chans.0 c.args.chans.1 none)

pub returns-then-not-last-clause-at : goal.returns-then-not-last-clause-at
returns-then-not-last-clause-at g c =
    let found = there c.requests.result.now c.args.plan.now.requests c.get.result (channel_number c.args.chans.0) c.in-Some.leaving.now c.in-Some.ensures.lookup.0 c.in-Some.ensures.lookup.1 c.requests.ensures.value c.get.ensures.value in
    let found_new = there c.requests-2.result.now c.args.plan.now.requests c.get-3.result (channel_number c.args.chans.1) c.in-Some-get.joining.now c.in-Some-get.ensures.lookup.0 c.in-Some-get.ensures.lookup.1 c.requests-2.ensures.value c.get-3.ensures.value in
    move-passed c.args.plan.now c.args.at.0 c.args.at.1 c.args.chans.0 c.args.chans.1 c.in-Some.leaving.now c.in-Some-get.joining.now c.args.pass.now c.args.channels.now.by_number.items c.requires.at c.requires.op found found_new (inl (looked-off c.args.channels.now.by_number.items c.in-Some.leaving.now.request.chan c.of-last.result c.of-last.ensures c.if-not-last.true))

pub returns-then-not-of-clause-at : goal.returns-then-not-of-clause-at
returns-then-not-of-clause-at g c =
    let found = there c.requests.result.now c.args.plan.now.requests c.get.result (channel_number c.args.chans.0) c.in-Some.leaving.now c.in-Some.ensures.lookup.0 c.in-Some.ensures.lookup.1 c.requests.ensures.value c.get.ensures.value in
    let found_new = there c.requests-2.result.now c.args.plan.now.requests c.get-3.result (channel_number c.args.chans.1) c.in-Some-get.joining.now c.in-Some-get.ensures.lookup.0 c.in-Some-get.ensures.lookup.1 c.requests-2.ensures.value c.get-3.ensures.value in
    move-passed c.args.plan.now c.args.at.0 c.args.at.1 c.args.chans.0 c.args.chans.1 c.in-Some.leaving.now c.in-Some-get.joining.now c.args.pass.now c.args.channels.now.by_number.items c.requires.at c.requires.op found found_new (inr (looked-off c.args.channels.now.by_number.items c.in-Some-get.joining.now.request.chan c.of.result c.of.ensures c.if-not-of.true))

pub shift-requires-clause-may : goal.shift-requires-clause-may
shift-requires-clause-may g c κs within =
    let found = there c.requests.result.now c.args.plan.now.requests c.get.result (channel_number c.args.chans.0) c.in-Some.leaving.now c.in-Some.ensures.lookup.0 c.in-Some.ensures.lookup.1 c.requests.ensures.value c.get.ensures.value in
    let found_new = there c.requests-2.result.now c.args.plan.now.requests c.get-3.result (channel_number c.args.chans.1) c.in-Some-get.joining.now c.in-Some-get.ensures.lookup.0 c.in-Some-get.ensures.lookup.1 c.requests-2.ensures.value c.get-3.ensures.value in
    may-shift c.args.plan.now g.H.Home.links g.H.Home.owners c.args.at.0 c.args.at.1 c.args.chans.0 c.args.chans.1 c.in-Some.leaving.now c.in-Some-get.joining.now c.args.pass.now c.args.channels.now.by_number.items c.requests.ensures.valid c.requires.network c.requires.at c.requires.op found found_new
    (looked-on c.args.channels.now.by_number.items c.in-Some.leaving.now.request.chan c.of-last.result c.of-last.ensures c.if-not-last.false) (looked-on c.args.channels.now.by_number.items c.in-Some-get.joining.now.request.chan c.of.result c.of.ensures c.if-not-of.false) (move_of c.new-mover.result) (c.new-mover.ensures.terms ∙ (λ i. move_between c.in-Some.leaving.now.request c.in-Some-get.joining.now.request (c.of-last.ensures i).gap (c.of-last.ensures i).size))

pub leave-requires-clause-old : goal.leave-requires-clause-old
leave-requires-clause-old g c =
    let found = there c.requests.result.now c.args.plan.now.requests c.get.result (channel_number c.args.chans.0) c.in-Some.leaving.now c.in-Some.ensures.lookup.0 c.in-Some.ensures.lookup.1 c.requests.ensures.value c.get.ensures.value in
    kept-inside c.args.plan.now c.args.at.0 c.args.at.1 (channel_number c.args.chans.0) c.in-Some.leaving.now c.args.pass.now c.args.channels.now.by_number.items c.requests.ensures.valid c.requires.at found

pub leave-requires-clause-new : goal.leave-requires-clause-new
leave-requires-clause-new g c =
    let found_new = there c.requests-2.result.now c.args.plan.now.requests c.get-3.result (channel_number c.args.chans.1) c.in-Some-get.joining.now c.in-Some-get.ensures.lookup.0 c.in-Some-get.ensures.lookup.1 c.requests-2.ensures.value c.get-3.ensures.value in
    kept-inside c.args.plan.now c.args.at.0 c.args.at.1 (channel_number c.args.chans.1) c.in-Some-get.joining.now c.args.pass.now c.args.channels.now.by_number.items c.requests.ensures.valid c.requires.at found_new

pub returns-clause-at : goal.returns-clause-at
returns-clause-at g c =
    let found = there c.requests.result.now c.args.plan.now.requests c.get.result (channel_number c.args.chans.0) c.in-Some.leaving.now c.in-Some.ensures.lookup.0 c.in-Some.ensures.lookup.1 c.requests.ensures.value c.get.ensures.value in
    let found_new = there c.requests-2.result.now c.args.plan.now.requests c.get-3.result (channel_number c.args.chans.1) c.in-Some-get.joining.now c.in-Some-get.ensures.lookup.0 c.in-Some-get.ensures.lookup.1 c.requests-2.ensures.value c.get-3.ensures.value in
    let is = c.new-mover.ensures.terms ∙ (λ i. move_between c.in-Some.leaving.now.request c.in-Some-get.joining.now.request (c.of-last.ensures i).gap (c.of-last.ensures i).size) in
    let learns = subst (λ (k : Channel). (outcomes : List Learnt) → AreTold c.args.channels.now.by_number.items outcomes → AreTold c.leave.new.self.by_number.items (MovedTo c.in-Some.leaving.now.request.chan c.in-Some-get.joining.now.request.chan c.in-Ok.told k.gap k.size ∷ outcomes)) c.of-last.ensures c.leave.ensures.told in
    move-over c.args.plan.now g.H.Home.links g.H.Home.owners c.args.at.0 c.args.at.1 c.args.chans.0 c.args.chans.1 c.in-Some.leaving.now c.in-Some-get.joining.now c.args.pass.now c.args.channels.now.by_number.items c.requests.ensures.valid c.requires.network c.requires.at c.requires.op found found_new
    (looked-on c.args.channels.now.by_number.items c.in-Some.leaving.now.request.chan c.of-last.result c.of-last.ensures c.if-not-last.false) (looked-on c.args.channels.now.by_number.items c.in-Some-get.joining.now.request.chan c.of.result c.of.ensures c.if-not-of.false) c.shift.new.pass c.leave.new.self.by_number.items c.shift.new.mover c.in-Ok.told c.shift.ensures.same.actor
    (subst (λ (m : Moving). OthersStay m.leaving c.args.pass.now.own c.shift.new.pass.own) is c.in-Ok.ensures.moved.others) c.leave.ensures.count learns (move_of c.new-mover.result) is c.in-Ok.ensures.moved.shifts

pub returns-in_default-clause-ready : goal.returns-in_default-clause-ready
returns-in_default-clause-ready g c = goes-none _ _ _ _ c.requires.pass

pub returns-in_default-get-clause-ready : goal.returns-in_default-get-clause-ready
returns-in_default-get-clause-ready g c = goes-none _ _ _ _ c.requires.pass

pub returns-then-not-last-clause-ready : goal.returns-then-not-last-clause-ready
returns-then-not-last-clause-ready g c = goes-none _ _ _ _ c.requires.pass

pub returns-then-not-of-clause-ready : goal.returns-then-not-of-clause-ready
returns-then-not-of-clause-ready g c = goes-none _ _ _ _ c.requires.pass

pub returns-clause-ready : goal.returns-clause-ready
returns-clause-ready g c = c.in-Ok.ensures.moved.ready
