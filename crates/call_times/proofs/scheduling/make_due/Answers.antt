-- It is time for the operation.
use Rattle.std.proofs.Common.{sym, ◌∙◌, arith}
use Rattle.run_engine.proofs.Keeping.NextStep.{callers-few}
use Rattle.call_times.proofs.RunsInTime.{caller-within, time-for}
use Rattle.call_times.proofs.scheduling.make_due.Goals as goal

pub actor_of-requires : goal.actor_of-requires
actor_of-requires c = (
    let few = callers-few c.args.plan.now c.requires.1.made.stands.plan in
    let within = caller-within c.args.plan.now c.args.due.now.caller c.args.due.now.place c.in-Some.op c.in-Some.ensures in
    omega (arith, few, within))

pub make_operation-requires : goal.make_operation-requires
make_operation-requires c = (
    let times = c.requires.0 in
    let between = c.in_ok-play_to.ensures.between c.if-not-branch.false times c.requires.1 in
    (times, time-for c.args.plan.now times c.play_to.new.self c.args.due.now c.actor_of.result c.in-Some.op between c.requires.2 c.in-Some.ensures c.actor_of.ensures (sym c.round.ensures ∙ c.if-round-tick.false)))

pub returns-in_ok-make_operation-in-Some : goal.returns-in_ok-make_operation-in-Some
returns-in_ok-make_operation-in-Some c = λ times before due.
    let between = c.in_ok-play_to.ensures.between c.if-not-branch.false times before in
    let time = time-for c.args.plan.now times c.play_to.new.self c.args.due.now c.actor_of.result c.in-Some.op between due c.in-Some.ensures c.actor_of.ensures (sym c.round.ensures ∙ c.if-round-tick.false) in
    let after = c.in_ok-make_operation-in-Some.ensures times time in
    record { run = after.run; made = after.made; starts = after.starts }
