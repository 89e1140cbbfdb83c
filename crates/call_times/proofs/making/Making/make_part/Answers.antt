-- The step is a part of the operation, whose time it is.
use Rattle.std.proofs.Common.{sym, ◌∙◌, subst, arith}
use Rattle.run_engine.specs.schedules.Standing.{MakesStep}
use Rattle.call_times.specs.Makings.{turns_made}
use Rattle.call_times.proofs.RunsInTime.{caller-step}
use Rattle.call_times.proofs.making.Making.make_part.Goals as goal

pub returns-in_ok-add-in-Some : goal.returns-in_ok-add-in-Some
unfolding turns_made
returns-in_ok-add-in-Some c = λ times time.
    let parts = c.args.plan.now in
    let asks = sym (c.next_ask.ensures time.run time.made.stands) ∙ c.in-Some.is in
    let makes = c.in_ok-done-in-Some.ensures.made time.run (record { stands = time.made.stands; asks = asks }) in
    let added = c.in_ok-add-in-Some.ensures in
    let few = time.caller in
    caller-step parts times c.args.self.now c.add.new.self c.args.actor c.args.op.now c.in_ok-done-in-Some.done c.in-Some.link c.in-Some.ask time
    (subst (λ e. MakesStep parts e time.run c.args.actor c.in_ok-done-in-Some.done) (sym added.engine) makes) asks (sym c.is_part.ensures ∙ c.if-not-is_part.false) added.turns
    (added.actors parts (record { items = time.made.actors.items; own = time.made.actors.own }) (omega (arith, few)))
