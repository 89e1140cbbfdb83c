-- The lane of the link has the reply, which the plane expects; and the run goes on with it.
use Rattle.std.proofs.Common.{◌≡◌, ◌<◌, length, set, sym, ap, ◌∙◌, subst, arith}
use Rattle.std.specs.List.{slice_get}
use Rattle.net_units.specs.Numbers.{link_number}
use Rattle.tick_plane.specs.PlaneAccount.{PlaneAccount}
use Rattle.tick_plane.specs.Planes.{next_due, plane_after, plane_expects, IsDueLater}
use Rattle.run_engine.proofs.Keeping.Lookups.{held}
use Rattle.plane_workers.proofs.StepHandedOn.{lane-has, lane-inside, round-left, skipped, step-expected, step-fewer, step-goes, step-later, step-seen, would-hand}
use Rattle.plane_workers.proofs.telling.tell_replied.Goals as goal

pub next_reply-reply-requires-clause-inside : goal.next_reply-reply-requires-clause-inside
next_reply-reply-requires-clause-inside g c =
    let number : c.from-place.result ≡ link_number c.args.link = c.from-place.ensures ∙ c.get.ensures.value in
    let within = lane-inside g.W.Watch.saw c.args.plan.now c.args.from c.args.until c.args.lanes.now c.args.plane.now c.args.watch.now c.requires.within.0 c.requires.within.1 c.requires.early c.args.link c.args.ask.now c.requires.asked in
    omega (arith, within, number)

pub next_reply-reply-requires-clause-written : goal.next_reply-reply-requires-clause-written
next_reply-reply-requires-clause-written g c = λ lane found.
    let number : c.from-place.result ≡ link_number c.args.link = c.from-place.ensures ∙ c.get.ensures.value in
    c.requires.written lane (ap (slice_get c.args.lanes.now) (sym number) ∙ found)

pub next_reply-reply-requires-clause-left : goal.next_reply-reply-requires-clause-left
next_reply-reply-requires-clause-left g c = λ lane found.
    let number : c.from-place.result ≡ link_number c.args.link = c.from-place.ensures ∙ c.get.ensures.value in
    lane-has g.W.Watch.saw c.args.plan.now c.args.from c.args.until c.args.lanes.now c.args.plane.now c.args.watch.now c.requires.within.0 c.requires.within.1 c.requires.early c.args.link c.args.ask.now c.requires.asked lane (ap (slice_get c.args.lanes.now) (sym number) ∙ found)

pub take_expected-requires-clause-left : goal.take_expected-requires-clause-left
take_expected-requires-clause-left g c =
    let left = round-left g.W.Watch.saw c.args.plan.now c.args.from c.args.until c.args.lanes.now c.args.plane.now c.args.watch.now c.requires.within.0 c.requires.within.1 c.requires.early c.args.link c.args.ask.now c.requires.asked in
    let kept = ap (λ (p : PlaneAccount). p.at.round) c.in_ok-ready.ensures.kept in
    let rounds = ap (λ (p : PlaneAccount). p.rounds) c.in_ok-ready.ensures.kept in
    omega (arith, left, kept, rounds)

pub take_expected-requires-clause-later : goal.take_expected-requires-clause-later
take_expected-requires-clause-later g c =
    let number : c.from-place.result ≡ link_number c.args.link = c.from-place.ensures ∙ c.get.ensures.value in
    let inside : c.from-place.result < length c.args.lanes.now = (let within = lane-inside g.W.Watch.saw c.args.plan.now c.args.from c.args.until c.args.lanes.now c.args.plane.now c.args.watch.now c.requires.within.0 c.requires.within.1 c.requires.early c.args.link c.args.ask.now c.requires.asked in omega (arith, within, number)) in
    let x = held c.args.lanes.now c.from-place.result inside in
    let on = would-hand c.args.lanes.now c.from-place.result c.next_reply-reply.result.now x.item x.found (c.next_reply-reply.ensures x.item x.found) in
    subst (λ (p : PlaneAccount). IsDueLater p.at.round c.next_reply-reply.result.now) (sym c.in_ok-ready.ensures.kept)
    (step-later g.W.Watch.saw c.args.plan.now c.args.from c.args.until c.args.lanes.now c.args.plane.now c.args.watch.now c.requires.within.0 c.requires.within.1 c.requires.early c.args.link c.args.ask.now c.requires.asked (set c.args.lanes.now c.from-place.result (skipped x.item)) c.from-place.result c.next_reply-reply.result.now number on)

pub take_expected-requires-clause-expected : goal.take_expected-requires-clause-expected
take_expected-requires-clause-expected g c =
    let number : c.from-place.result ≡ link_number c.args.link = c.from-place.ensures ∙ c.get.ensures.value in
    let inside : c.from-place.result < length c.args.lanes.now = (let within = lane-inside g.W.Watch.saw c.args.plan.now c.args.from c.args.until c.args.lanes.now c.args.plane.now c.args.watch.now c.requires.within.0 c.requires.within.1 c.requires.early c.args.link c.args.ask.now c.requires.asked in omega (arith, within, number)) in
    let x = held c.args.lanes.now c.from-place.result inside in
    let on = would-hand c.args.lanes.now c.from-place.result c.next_reply-reply.result.now x.item x.found (c.next_reply-reply.ensures x.item x.found) in
    ap (λ (p : PlaneAccount). plane_expects (next_due p.at) c.next_reply-reply.result.now) c.in_ok-ready.ensures.kept
    ∙ step-expected g.W.Watch.saw c.args.plan.now c.args.from c.args.until c.args.lanes.now c.args.plane.now c.args.watch.now c.requires.within.0 c.requires.within.1 c.requires.early c.args.link c.args.ask.now c.requires.asked (set c.args.lanes.now c.from-place.result (skipped x.item)) c.from-place.result c.next_reply-reply.result.now number on

pub see_plane-requires : goal.see_plane-requires
see_plane-requires g c =
    let number : c.from-place.result ≡ link_number c.args.link = c.from-place.ensures ∙ c.get.ensures.value in
    let inside : c.from-place.result < length c.args.lanes.now = (let within = lane-inside g.W.Watch.saw c.args.plan.now c.args.from c.args.until c.args.lanes.now c.args.plane.now c.args.watch.now c.requires.within.0 c.requires.within.1 c.requires.early c.args.link c.args.ask.now c.requires.asked in omega (arith, within, number)) in
    let x = held c.args.lanes.now c.from-place.result inside in
    let on = would-hand c.args.lanes.now c.from-place.result c.next_reply-reply.result.now x.item x.found (c.next_reply-reply.ensures x.item x.found) in
    (c.requires.within.0, step-seen g.W.Watch.saw c.args.plan.now c.args.from c.args.until c.args.lanes.now c.args.plane.now c.args.watch.now c.requires.within.0 c.requires.within.1 c.requires.early c.args.link c.args.ask.now c.requires.asked (set c.args.lanes.now c.from-place.result (skipped x.item)) c.from-place.result c.next_reply-reply.result.now number on)

pub hand_on-requires-clause-inside : goal.hand_on-requires-clause-inside
hand_on-requires-clause-inside g c =
    let number : c.from-place.result ≡ link_number c.args.link = c.from-place.ensures ∙ c.get.ensures.value in
    let within = lane-inside g.W.Watch.saw c.args.plan.now c.args.from c.args.until c.args.lanes.now c.args.plane.now c.args.watch.now c.requires.within.0 c.requires.within.1 c.requires.early c.args.link c.args.ask.now c.requires.asked in
    omega (arith, within, number)

pub hand_on-requires-clause-left : goal.hand_on-requires-clause-left
hand_on-requires-clause-left g c = λ lane found. (c.next_reply-reply.ensures lane found).inside

pub returns-clause-goes : goal.returns-clause-goes
returns-clause-goes g c = λ past stand.
    let number : c.from-place.result ≡ link_number c.args.link = c.from-place.ensures ∙ c.get.ensures.value in
    let on = c.hand_on.ensures c.next_reply-reply.result.now c.next_reply-reply.ensures in
    let reply = c.next_reply-reply.result.now in
    let new = c.hand_on.new.lanes in
    let after : c.take_expected.new.self.at ≡ plane_after c.args.plane.now.links c.next_reply-reply.result.now c.args.plane.now.at = c.take_expected.ensures.taken ∙ ap (λ (p : PlaneAccount). plane_after p.links c.next_reply-reply.result.now p.at) c.in_ok-ready.ensures.kept in
    let links' = c.take_expected.ensures.links ∙ ap (λ (p : PlaneAccount). p.links) c.in_ok-ready.ensures.kept in
    let rounds' = c.take_expected.ensures.rounds ∙ ap (λ (p : PlaneAccount). p.rounds) c.in_ok-ready.ensures.kept in
    step-goes g.W.Watch.saw c.args.plan.now c.args.from c.args.until c.args.lanes.now c.args.plane.now c.args.watch.now past stand c.requires.early c.args.link c.args.ask.now c.requires.asked new c.from-place.result reply number on c.take_expected.new.self after links' rounds' c.see_plane.new.self
    (c.in_ok-see_plane.ensures.seen past (step-seen g.W.Watch.saw c.args.plan.now c.args.from c.args.until c.args.lanes.now c.args.plane.now c.args.watch.now past stand c.requires.early c.args.link c.args.ask.now c.requires.asked new c.from-place.result reply number on))

pub returns-clause-fewer : goal.returns-clause-fewer
returns-clause-fewer g c =
    let number : c.from-place.result ≡ link_number c.args.link = c.from-place.ensures ∙ c.get.ensures.value in
    let on = c.hand_on.ensures c.next_reply-reply.result.now c.next_reply-reply.ensures in
    let reply = c.next_reply-reply.result.now in
    let new = c.hand_on.new.lanes in
    let after : c.take_expected.new.self.at ≡ plane_after c.args.plane.now.links c.next_reply-reply.result.now c.args.plane.now.at = c.take_expected.ensures.taken ∙ ap (λ (p : PlaneAccount). plane_after p.links c.next_reply-reply.result.now p.at) c.in_ok-ready.ensures.kept in
    let links' = c.take_expected.ensures.links ∙ ap (λ (p : PlaneAccount). p.links) c.in_ok-ready.ensures.kept in
    let rounds' = c.take_expected.ensures.rounds ∙ ap (λ (p : PlaneAccount). p.rounds) c.in_ok-ready.ensures.kept in
    step-fewer g.W.Watch.saw c.args.plan.now c.args.from c.args.until c.args.lanes.now c.args.plane.now c.args.watch.now c.requires.within.0 c.requires.within.1 c.requires.early c.args.link c.args.ask.now c.requires.asked new c.from-place.result reply number on c.take_expected.new.self after links' rounds'

pub returns-clause-rounds : goal.returns-clause-rounds
returns-clause-rounds g c = c.take_expected.ensures.rounds ∙ ap (λ (p : PlaneAccount). p.rounds) c.in_ok-ready.ensures.kept
