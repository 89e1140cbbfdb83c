-- The plane makes one more step.
use Rattle.std.proofs.Common.{◌++◌, sym, ap, ◌∙◌, subst, arith}
use Rattle.net_units.specs.Numbers.{actor_number}
use Rattle.run_engine.specs.schedules.Schedules.{repeated}
use Rattle.run_engine.specs.schedules.Standing.{MakesStep}
use Rattle.run_engine.proofs.Keeping.NextPlaneStep.{own-number}
use Rattle.call_times.specs.Makings.{turns_made}
use Rattle.call_times.proofs.RunsInTime.{plane-step}
use Rattle.call_times.proofs.making.Making.make_step.Goals as goal

pub returns-in_ok-add-in-Some : goal.returns-in_ok-add-in-Some
unfolding turns_made
returns-in_ok-add-in-Some c = λ times at.
    let parts = c.args.plan.now in
    let stands = at.made.stands in
    let plane = c.plane_of-plane.result in
    let is = c.plane_of-plane.ensures in
    let asks = sym (c.next_ask.ensures at.run stands) ∙ c.in-Some.is in
    let makes = c.in_ok-make-in-Some.ensures.made at.run (record { stands = stands; asks = asks }) in
    let added = c.in_ok-add-in-Some.ensures in
    let number = own-number parts stands.plan in
    let same = ap (λ a. actor_number a) is in
    plane-step parts times c.args.self.now c.add.new.self c.args.round c.in_ok-make-in-Some.field-0 at
    (ap (λ p. p.round) (sym stands.actors.plane.at) ∙ c.requires.round)
    (subst (λ a. MakesStep parts c.add.new.self.engine at.run a c.in_ok-make-in-Some.field-0) is (subst (λ e. MakesStep parts e at.run plane c.in_ok-make-in-Some.field-0) (sym added.engine) makes))
    (added.turns ∙ ap (λ a. turns_made c.args.self.now ++ repeated 1 a) is)
    (added.actors parts (record { items = at.made.actors.items; own = at.made.actors.own }) (omega (arith, number, same)))
