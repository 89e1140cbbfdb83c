-- A watcher of a run sees each of its entries as the run is made. An engine and its watcher stand for one run where each of them
-- does. `saw` says which runs of a plan the watcher has seen.
use Rattle.std.specs.Prelude.{◌≡◌, ℕ, Some, List, ◌∷◌}
use Rattle.net_units.specs.Numbers.{actor_number}
use Rattle.net_units.specs.declared.numbers.ActorNo.{ActorNo}
use Rattle.net_units.specs.declared.numbers.LinkNo.{LinkNo}
use Rattle.link_steps.specs.declared.asks.Ask.{Ask}
use Rattle.call_script.specs.Parts.{PlanParts}
use Rattle.call_script.specs.Plans.{IsPlan}
use Rattle.call_script.specs.Tasks.{network_of}
use Rattle.call_script.specs.declared.schedule.Schedule.{Schedule}
use Rattle.run_engine.specs.schedules.Quiet.{RestsFor}
use Rattle.run_engine.specs.runs.Runs.{next_for, plane_at, IsNext, IsRun}
use Rattle.run_engine.specs.schedules.Schedules.{FollowsTurns, IsPlayed, PlayedOut, StepsOut}
use Rattle.run_engine.specs.schedules.Standing.{CallersStand, EngineStands}
use Rattle.run_engine.specs.declared.callers.Callers.{Callers}
use Rattle.run_engine.specs.declared.engine.Engine.{Engine}
use Rattle.run_record.specs.declared.done.Done.{Done}

-- both stand for the run
pub record WatchStands {W : Type 0} (saw : W → PlanParts → List Done → Type 0) (parts : PlanParts) (engine : Engine) (watch : W) (run : List Done) : Type 0 where
  pub stands : EngineStands parts engine run
  pub seen : saw watch parts run

-- in that run this is what the actor asks next
pub record IsAsked {W : Type 0} (saw : W → PlanParts → List Done → Type 0) (parts : PlanParts) (engine : Engine) (watch : W) (run : List Done) (actor : ActorNo) (to : LinkNo) (ask : Ask) : Type 0 where
  pub stand : WatchStands saw parts engine watch run
  pub asks : next_for (network_of parts) (actor_number actor) run ≡ Some (to, ask)

-- ---- going on with a run

-- by the actor's next step
pub record GoesOn {W : Type 0} (saw : W → PlanParts → List Done → Type 0) (parts : PlanParts) (engine : Engine) (watch : W) (past : List Done) (actor : ActorNo) : Type 0 where
  pub done : Done
  pub next : IsNext (network_of parts) past done
  pub by : done.actor ≡ actor
  pub stand : WatchStands saw parts engine watch (done ∷ past)

-- by these turns
pub record PlaysOn {W : Type 0} (saw : W → PlanParts → List Done → Type 0) (parts : PlanParts) (engine : Engine) (watch : W) (past : List Done) (actors : List ActorNo) : Type 0 where
  pub run : List Done
  pub follows : FollowsTurns (network_of parts) past actors run
  pub stand : WatchStands saw parts engine watch run

-- by all steps that the actor has left
pub record PlaysOut {W : Type 0} (saw : W → PlanParts → List Done → Type 0) (parts : PlanParts) (engine : Engine) (watch : W) (past : List Done) (actor : ActorNo) : Type 0 where
  pub run : List Done
  pub out : StepsOut (network_of parts) past actor run
  pub stand : WatchStands saw parts engine watch run

-- the first n actors have made all their steps, one after the other
pub record HavePlayedOut {W : Type 0} (saw : W → PlanParts → List Done → Type 0) (parts : PlanParts) (engine : Engine) (watch : W) (n : ℕ) : Type 0 where
  pub run : List Done
  pub played : PlayedOut (network_of parts) n run
  pub stand : WatchStands saw parts engine watch run

-- ---- a run that was seen whole

-- the next step of a run that was seen
pub record IsNextSeen {W : Type 0} (saw : W → PlanParts → List Done → Type 0) (parts : PlanParts) (watch : W) (past : List Done) (done : Done) : Type 0 where
  pub plan : IsPlan parts
  pub run : IsRun (network_of parts) past
  pub next : IsNext (network_of parts) past done
  pub seen : saw watch parts past

-- the next n rounds of a run that was seen are quiet, and the first of them has this number
pub record IsRestSeen {W : Type 0} (saw : W → PlanParts → List Done → Type 0) (parts : PlanParts) (watch : W) (past : List Done) (first n : ℕ) : Type 0 where
  pub plan : IsPlan parts
  pub run : IsRun (network_of parts) past
  pub rests : RestsFor (network_of parts) n past
  pub at : (plane_at (network_of parts) past).round ≡ first
  pub seen : saw watch parts past

-- the callers stand for the run, and it was seen
pub record IsSeen {W : Type 0} (saw : W → PlanParts → List Done → Type 0) (parts : PlanParts) (callers : Callers) (watch : W) (run : List Done) : Type 0 where
  pub stand : CallersStand parts callers run
  pub seen : saw watch parts run

-- it is the schedule's run of a plan
pub record IsPlayedSeen {W : Type 0} (saw : W → PlanParts → List Done → Type 0) (parts : PlanParts) (schedule : Schedule) (callers : Callers) (watch : W) : Type 0 where
  pub run : List Done
  pub plan : IsPlan parts
  pub played : IsPlayed (network_of parts) schedule run
  pub run_is : IsRun (network_of parts) run
  pub seen : IsSeen saw parts callers watch run
