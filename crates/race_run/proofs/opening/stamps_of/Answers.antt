use Rattle.std.proofs.Common.{length, ap, arith}
use Rattle.run_engine.proofs.Keeping.NextStep.{callers-few, has-few}
use Rattle.race_run.proofs.opening.stamps_of.Goals as goal

pub overflow_cast-links : goal.overflow_cast-links
overflow_cast-links c = (let few = (has-few c.args.plan.now c.links.ensures.valid).few in omega (arith, few, ap length c.links.ensures.value))

pub overflow_cast-actors : goal.overflow_cast-actors
overflow_cast-actors c = omega (arith, callers-few c.args.plan.now c.links.ensures.valid, ap length c.callers.ensures.value)

pub overflow_add-actors : goal.overflow_add-actors
overflow_add-actors c = omega (arith, callers-few c.args.plan.now c.links.ensures.valid, ap length c.callers.ensures.value)

pub open-requires-clause-links : goal.open-requires-clause-links
open-requires-clause-links c = (let few = has-few c.args.plan.now c.links.ensures.valid in (omega (arith, few.some, ap length c.links.ensures.value), omega (arith, few.few, ap length c.links.ensures.value)))

pub open-requires-clause-actors : goal.open-requires-clause-actors
open-requires-clause-actors c = (omega arith, omega (arith, callers-few c.args.plan.now c.links.ensures.valid, ap length c.callers.ensures.value))
