-- The numbers of a plan's links and rounds are those of a plane.
use Rattle.std.proofs.Common.{ap, ◌∙◌, length, arith}
use Rattle.tick_plane.specs.PlaneAccount.{PlaneAccount}
use Rattle.run_engine.proofs.Keeping.KeptActors.{plane-made}
use Rattle.run_engine.proofs.Keeping.NextStep.{has-few}
use Rattle.run_engine.proofs.actors.Actors.new.Goals as goal

pub overflow_cast-links : goal.overflow_cast-links
overflow_cast-links c = (let has = has-few c.args.plan.now c.links.ensures.valid in omega (arith, has.few, ap length c.links.ensures.value))

pub overflow_add-rounds : goal.overflow_add-rounds
overflow_add-rounds c = (let has = has-few c.args.plan.now c.links.ensures.valid in omega (arith, has.rounds, c.rounds.ensures.value, c.tail.ensures.value))

pub new-requires-2-clause-links_least : goal.new-requires-2-clause-links_least
new-requires-2-clause-links_least c = (let has = has-few c.args.plan.now c.links.ensures.valid in omega (arith, has.some, ap length c.links.ensures.value))

pub new-requires-2-clause-links_most : goal.new-requires-2-clause-links_most
new-requires-2-clause-links_most c = (let has = has-few c.args.plan.now c.links.ensures.valid in omega (arith, has.few, ap length c.links.ensures.value))

pub new-requires-2-clause-rounds_most : goal.new-requires-2-clause-rounds_most
new-requires-2-clause-rounds_most c = (let has = has-few c.args.plan.now c.links.ensures.valid in omega (arith, has.rounds, c.rounds.ensures.value, c.tail.ensures.value))

pub returns-clause-stand : goal.returns-clause-stand
returns-clause-stand c =
    let is = c.in_ok-plane.ensures in
    record {
      callers = c.in_ok-callers.ensures.stand;
      plane = plane-made c.args.plan.now c.in_ok-plane.plane
          (ap (λ (p : PlaneAccount). p.links) is ∙ ap length c.links.ensures.value)
          (ap (λ (p : PlaneAccount). p.rounds) is ∙ omega (arith, c.rounds.ensures.value, c.tail.ensures.value))
          (ap (λ (p : PlaneAccount). p.at) is);
    }
