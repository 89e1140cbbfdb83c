use Rattle.std.proofs.Common.{length, ap, arith}
use Rattle.run_engine.proofs.Keeping.NextStep.{has-few}
use Rattle.race_run.proofs.opening.plane_of.Goals as goal

pub overflow_cast-links : goal.overflow_cast-links
overflow_cast-links c = (let few = (has-few c.args.plan.now c.links.ensures.valid).few in omega (arith, few, ap length c.links.ensures.value))

pub overflow_add-rounds : goal.overflow_add-rounds
overflow_add-rounds c = (let few = (has-few c.args.plan.now c.links.ensures.valid).rounds in omega (arith, few, c.rounds.ensures.value, c.tail.ensures.value))

pub new-requires-clause-links_least : goal.new-requires-clause-links_least
new-requires-clause-links_least c = (let some = (has-few c.args.plan.now c.links.ensures.valid).some in omega (arith, some, ap length c.links.ensures.value))

pub new-requires-clause-links_most : goal.new-requires-clause-links_most
new-requires-clause-links_most c = (let few = (has-few c.args.plan.now c.links.ensures.valid).few in omega (arith, few, ap length c.links.ensures.value))

pub new-requires-clause-rounds_most : goal.new-requires-clause-rounds_most
new-requires-clause-rounds_most c = (let few = (has-few c.args.plan.now c.links.ensures.valid).rounds in omega (arith, few, c.rounds.ensures.value, c.tail.ensures.value))
