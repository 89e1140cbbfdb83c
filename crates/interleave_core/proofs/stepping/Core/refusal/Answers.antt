-- The record counts the steps of the actor.
use Rattle.std.proofs.Common.{arith, ap, length, refl}
use Rattle.interleave_core.specs.Cores.{run_in}
use Rattle.interleave_core.proofs.stepping.Core.refusal.Goals as goal

pub returns : goal.returns
returns c = (
  omega (arith, c.if-from-callers.false, c.from.ensures, c.get.ensures.value, ap length c.callers-callers.ensures.value),
  c.steps_of.ensures c.args.plan.now (run_in c.args.self.now) refl,
)
