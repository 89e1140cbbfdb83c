use Rattle.call_script.specs.Tasks.{network_of}
use Rattle.interleave_core.specs.Cores.{CoreStands, run_in}
use Rattle.run_engine.specs.runs.Turns.{most_left}
use Rattle.net_units.specs.Numbers.{actor_number}
use Rattle.network_tour.proofs.by_core.step_out.Given as goal

abbrev pub invariant-loop-actor : goal.invariant-loop-actor
invariant-loop-actor l = CoreStands l.plan l.core

-- the steps that the actor has left at most
abbrev pub decreases-loop-actor : goal.decreases-loop-actor
decreases-loop-actor l = most_left (network_of l.plan) (actor_number l.actor) (run_in l.core)
