-- The lane of the link hands on a quiet tick, which the plane expects; and the run goes on with it.
use Rattle.std.proofs.Common.{◌≡◌, ◌∷◌, sym, ◌∙◌, subst, arith}
use Rattle.std.specs.Prelude.{IfSome}
use Rattle.net_units.specs.Numbers.{link_number}
use Rattle.call_script.specs.Tasks.{network_of}
use Rattle.link_steps.specs.Quiet.{quiet_reply}
use Rattle.link_steps.specs.declared.asks.Ask.{Ask}
use Rattle.run_engine.specs.schedules.PlaneSteps.{plane_step}
use Rattle.run_engine.specs.schedules.Watching.{IsNextSeen}
use Rattle.plane_workers.specs.Lanes.{HandsOn}
use Rattle.plane_workers.proofs.StepHandedOn.{lane-inside, quiet-after, quiet-none, quiet-tick, step-fewer, step-goes, step-seen}
use Rattle.plane_workers.proofs.telling.tell_asked.Goals as goal

pub next_quiet-requires : goal.next_quiet-requires
next_quiet-requires g c =
    let number : c.from.result ≡ link_number c.args.link = c.from.ensures ∙ c.get.ensures.value in
    let within = lane-inside g.W.Watch.saw c.args.plan.now c.args.from c.args.until c.args.lanes.now c.args.plane.now c.args.watch.now c.requires.within.0 c.requires.within.1 c.requires.early c.args.link c.args.ask.now c.requires.asked in
    omega (arith, within, number)

pub pass-requires-clause-none : goal.pass-requires-clause-none
pass-requires-clause-none g c =
    let number : c.from.result ≡ link_number c.args.link = c.from.ensures ∙ c.get.ensures.value in
    let on : HandsOn c.from.result (quiet_reply c.in-Some.clock) c.args.lanes.now c.next_quiet.new.lanes = subst (λ found. IfSome found (λ clock. HandsOn c.from.result (quiet_reply clock) c.args.lanes.now c.next_quiet.new.lanes)) c.in-Some.is c.next_quiet.ensures.told in
    quiet-none g.W.Watch.saw c.args.plan.now c.args.from c.args.until c.args.lanes.now c.args.plane.now c.args.watch.now c.requires.within.0 c.requires.within.1 c.requires.early c.args.link c.args.ask.now c.requires.asked c.next_quiet.new.lanes c.from.result c.in-Some.clock number on

pub passed-requires : goal.passed-requires
passed-requires g c =
    let number : c.from.result ≡ link_number c.args.link = c.from.ensures ∙ c.get.ensures.value in
    let on : HandsOn c.from.result (quiet_reply c.in-Some.clock) c.args.lanes.now c.next_quiet.new.lanes = subst (λ found. IfSome found (λ clock. HandsOn c.from.result (quiet_reply clock) c.args.lanes.now c.next_quiet.new.lanes)) c.in-Some.is c.next_quiet.ensures.told in
    let tick = quiet-tick g.W.Watch.saw c.args.plan.now c.args.from c.args.until c.args.lanes.now c.args.plane.now c.args.watch.now c.requires.within.0 c.requires.within.1 c.requires.early c.args.link c.args.ask.now c.requires.asked c.next_quiet.new.lanes c.from.result c.in-Some.clock number on in
    (c.requires.within.0, subst (λ (ask : Ask). IsNextSeen g.W.Watch.saw c.args.plan.now c.args.watch.now c.requires.within.0 (plane_step (network_of c.args.plan.now) c.args.link ask (quiet_reply c.in-Some.clock))) tick (step-seen g.W.Watch.saw c.args.plan.now c.args.from c.args.until c.args.lanes.now c.args.plane.now c.args.watch.now c.requires.within.0 c.requires.within.1 c.requires.early c.args.link c.args.ask.now c.requires.asked c.next_quiet.new.lanes c.from.result (quiet_reply c.in-Some.clock) number on))

pub returns-in_ok-passed-in-Some-clause-goes : goal.returns-in_ok-passed-in-Some-clause-goes
returns-in_ok-passed-in-Some-clause-goes g c = λ past stand.
    let number : c.from.result ≡ link_number c.args.link = c.from.ensures ∙ c.get.ensures.value in
    let on : HandsOn c.from.result (quiet_reply c.in-Some.clock) c.args.lanes.now c.next_quiet.new.lanes = subst (λ found. IfSome found (λ clock. HandsOn c.from.result (quiet_reply clock) c.args.lanes.now c.next_quiet.new.lanes)) c.in-Some.is c.next_quiet.ensures.told in
    let tick = quiet-tick g.W.Watch.saw c.args.plan.now c.args.from c.args.until c.args.lanes.now c.args.plane.now c.args.watch.now past stand c.requires.early c.args.link c.args.ask.now c.requires.asked c.next_quiet.new.lanes c.from.result c.in-Some.clock number on in
    let next = subst (λ (ask : Ask). IsNextSeen g.W.Watch.saw c.args.plan.now c.args.watch.now past (plane_step (network_of c.args.plan.now) c.args.link ask (quiet_reply c.in-Some.clock))) tick (step-seen g.W.Watch.saw c.args.plan.now c.args.from c.args.until c.args.lanes.now c.args.plane.now c.args.watch.now past stand c.requires.early c.args.link c.args.ask.now c.requires.asked c.next_quiet.new.lanes c.from.result (quiet_reply c.in-Some.clock) number on) in
    step-goes g.W.Watch.saw c.args.plan.now c.args.from c.args.until c.args.lanes.now c.args.plane.now c.args.watch.now past stand c.requires.early c.args.link c.args.ask.now c.requires.asked c.next_quiet.new.lanes c.from.result (quiet_reply c.in-Some.clock) number on c.pass.new.self (quiet-after g.W.Watch.saw c.args.plan.now c.args.from c.args.until c.args.lanes.now c.args.plane.now c.args.watch.now past stand c.requires.early c.args.link c.args.ask.now c.requires.asked c.next_quiet.new.lanes c.from.result c.in-Some.clock number on c.pass.new.self c.pass.ensures.passed) c.pass.ensures.links c.pass.ensures.rounds c.passed.new.self
    (subst (λ (ask : Ask). g.W.Watch.saw c.passed.new.self c.args.plan.now (plane_step (network_of c.args.plan.now) c.args.link ask (quiet_reply c.in-Some.clock) ∷ past)) (sym tick) (c.in_ok-passed-in-Some.ensures.seen past next))

pub returns-in_ok-passed-in-Some-clause-fewer : goal.returns-in_ok-passed-in-Some-clause-fewer
returns-in_ok-passed-in-Some-clause-fewer g c =
    let number : c.from.result ≡ link_number c.args.link = c.from.ensures ∙ c.get.ensures.value in
    let on : HandsOn c.from.result (quiet_reply c.in-Some.clock) c.args.lanes.now c.next_quiet.new.lanes = subst (λ found. IfSome found (λ clock. HandsOn c.from.result (quiet_reply clock) c.args.lanes.now c.next_quiet.new.lanes)) c.in-Some.is c.next_quiet.ensures.told in
    step-fewer g.W.Watch.saw c.args.plan.now c.args.from c.args.until c.args.lanes.now c.args.plane.now c.args.watch.now c.requires.within.0 c.requires.within.1 c.requires.early c.args.link c.args.ask.now c.requires.asked c.next_quiet.new.lanes c.from.result (quiet_reply c.in-Some.clock) number on c.pass.new.self (quiet-after g.W.Watch.saw c.args.plan.now c.args.from c.args.until c.args.lanes.now c.args.plane.now c.args.watch.now c.requires.within.0 c.requires.within.1 c.requires.early c.args.link c.args.ask.now c.requires.asked c.next_quiet.new.lanes c.from.result c.in-Some.clock number on c.pass.new.self c.pass.ensures.passed) c.pass.ensures.links c.pass.ensures.rounds
