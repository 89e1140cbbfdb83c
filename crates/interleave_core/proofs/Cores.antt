-- What a core keeps: it stands for the run that it has recorded, and its steps come to an end.
use Rattle.std.proofs.Common.{◌≡◌, ◌<◌, IsSome, List, [], ◌∷◌, sym, subst}
use Rattle.run_engine.proofs.Words.{actor_number, ActorNo, PlanParts, Network, network_of, next_for, step, run_from, Done}
use Rattle.call_script.proofs.PlansFit.{plan-fits}
use Rattle.interleave_core.proofs.Channels.GuaranteeLaw.{plan-guaranteed}
use Rattle.interleave_core.specs.Cores.{CoreStands, run_in}
use Rattle.interleave_core.specs.channels.Laws.{IsGuaranteedRun}
use Rattle.interleave_core.specs.declared.stepping.Core.{Core}
use Rattle.run_engine.proofs.Tasks.StepsRunOut.{makes-one}
use Rattle.run_engine.specs.runs.Turns.{most_left}
use Rattle.run_engine.specs.schedules.Schedules.{HaveSteps, FollowsTurns}
use Rattle.run_engine.specs.schedules.Standing.{EngineStands}

-- a core stands where its engine stands for the run that it has recorded
pub stands-by : (parts : PlanParts) (core : Core) (run : List Done) → run_in core ≡ run → EngineStands parts core.engine run → CoreStands parts core
stands-by parts core run is stands = subst (EngineStands parts core.engine) (sym is) stands

-- that run has the whole guarantee
pub run-guaranteed : (parts : PlanParts) (core : Core) → CoreStands parts core → IsGuaranteedRun parts (run_in core)
run-guaranteed parts core stands = plan-guaranteed parts (run_in core) stands.plan stands.run

-- a turn leaves its actor fewer steps at most
unserved : (network : Network) (past run : List Done) (actor : ActorNo) → FollowsTurns network past (actor ∷ []) run → IsSome (next_for network (actor_number actor) past) × (run ≡ step network actor past)
unfolding HaveSteps run_from
unserved network past run actor one = (one.served.0, one.is)

pub turn-fewer : (parts : PlanParts) (core : Core) (run : List Done) (actor : ActorNo) → CoreStands parts core → FollowsTurns (network_of parts) (run_in core) (actor ∷ []) run → most_left (network_of parts) (actor_number actor) run < most_left (network_of parts) (actor_number actor) (run_in core)
turn-fewer parts core run actor stands one =
    let made = unserved (network_of parts) (run_in core) run actor one in
    subst (λ more. most_left (network_of parts) (actor_number actor) more < most_left (network_of parts) (actor_number actor) (run_in core)) (sym made.1) (makes-one (network_of parts) (run_in core) actor (plan-fits parts stands.plan) stands.run made.0).fewer
