use Rattle.call_script.specs.Tasks.{network_of}
use Rattle.interleave_core.specs.Cores.{run_in}
use Rattle.run_engine.proofs.Schedules.PlayedTurns.{step-follows}
use Rattle.interleave_core.proofs.Cores.{turn-fewer}
use Rattle.network_tour.proofs.by_core.step_out.Goals as goal

-- a step leaves the actor fewer
pub loop-actor-smaller : goal.loop-actor-smaller
loop-actor-smaller c =
    turn-fewer c.args.plan.now c.loop-actor.core (run_in c.step.new.self) c.args.actor c.loop-actor.invariant
    (step-follows (network_of c.args.plan.now) c.args.actor (run_in c.loop-actor.core) c.in-Ok.reply (run_in c.step.new.self) c.in-Ok.ensures.made)
