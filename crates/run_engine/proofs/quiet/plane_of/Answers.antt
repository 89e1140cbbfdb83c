-- The plane's number is the one after those of the callers.
use Rattle.std.proofs.Common.{length, sym, ap, ◌∙◌, arith}
use Rattle.run_engine.proofs.Words.{actor_at}
use Rattle.run_engine.proofs.Keeping.KeptActors.{plane-number}
use Rattle.run_engine.proofs.Keeping.NextStep.{callers-few}
use Rattle.run_engine.proofs.quiet.plane_of.Goals as goal

pub actor_of-requires : goal.actor_of-requires
actor_of-requires c = (let few = callers-few c.args.plan.now c.callers.ensures.valid in let same = ap length c.callers.ensures.value in omega (arith, few, same))

pub returns : goal.returns
returns c = c.actor_of.ensures ∙ ap actor_at (ap length c.callers.ensures.value ∙ sym (plane-number c.args.plan.now))
