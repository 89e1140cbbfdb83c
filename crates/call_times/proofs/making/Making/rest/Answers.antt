-- The rounds are turns of the plane.
use Rattle.std.proofs.Common.{◌++◌, ◌*◌, sym, ap, ◌∙◌, subst, arith}
use Rattle.net_units.specs.Numbers.{actor_number}
use Rattle.run_engine.specs.schedules.Resting.{MakesStride}
use Rattle.run_engine.specs.schedules.Schedules.{repeated}
use Rattle.run_engine.proofs.Keeping.NextPlaneStep.{own-number}
use Rattle.call_times.specs.Makings.{turns_made}
use Rattle.call_times.proofs.RunsInTime.{rest-in-time}
use Rattle.call_times.proofs.making.Making.rest.Goals as goal

pub returns : goal.returns
unfolding turns_made
returns c = λ times between.
    let parts = c.args.plan.now in
    let stands = between.made.stands in
    let is = c.plane_of.ensures in
    let stride = c.stride.ensures parts between.run stands in
    let added = c.in_ok-add.ensures in
    let number = own-number parts stands.plan in
    let same = ap (λ a. actor_number a) is in
    rest-in-time parts times c.args.self.now c.add.new.self c.args.rounds (c.args.rounds * c.args.links) between
    (subst (λ e. MakesStride parts e between.run c.args.rounds) (sym added.engine) stride)
    (ap (λ links. c.args.rounds * links) c.requires.links)
    (added.turns ∙ ap (λ a. turns_made c.args.self.now ++ repeated (c.args.rounds * c.args.links) a) is)
    (added.actors parts (record { items = between.made.actors.items; own = between.made.actors.own }) (omega (arith, number, same)))
