-- Turns that an engine makes while a watcher sees the run. `saw` says which runs of a plan the watcher has seen.
use Rattle.std.specs.Prelude.{◌≡◌, ℕ, Some, List}
use Rattle.net_units.specs.Numbers.{actor_number}
use Rattle.net_units.specs.declared.numbers.ActorNo.{ActorNo}
use Rattle.net_units.specs.declared.numbers.LinkNo.{LinkNo}
use Rattle.link_steps.specs.declared.asks.Ask.{Ask}
use Rattle.call_script.specs.Parts.{PlanParts}
use Rattle.call_script.specs.Plans.{IsPlan}
use Rattle.call_script.specs.Tasks.{network_of}
use Rattle.run_engine.specs.runs.Runs.{next_for}
use Rattle.run_engine.specs.schedules.Standing.{EngineStands}
use Rattle.run_engine.specs.schedules.Watching.{IsSeen, WatchStands}
use Rattle.run_engine.specs.declared.callers.Callers.{Callers}
use Rattle.run_engine.specs.declared.engine.Engine.{Engine}
use Rattle.load_maker.specs.TurnRuns.{goes_on_at, GoesByTurns, IsItsTurn, IsTurnsRun, NobodyIsLeft}
use Rattle.run_record.specs.declared.done.Done.{Done}

-- the engine stands for a run after which the circle goes on at this number
pub record IsCircleAt (parts : PlanParts) (engine : Engine) (next : ℕ) (run : List Done) : Type 0 where
  pub stands : EngineStands parts engine run
  pub goes_on : next ≡ goes_on_at run

-- the turn is this actor's, and it asks this of the link
pub record IsTurnOf (parts : PlanParts) (run : List Done) (actor : ActorNo) (to : LinkNo) (ask : Ask) : Type 0 where
  pub turn : IsItsTurn (network_of parts) run (actor_number actor)
  pub asks : next_for (network_of parts) (actor_number actor) run ≡ Some (to, ask)

-- nobody has a step left after a run by turns
pub record HaveTurned {W : Type 0} (saw : W → PlanParts → List Done → Type 0) (parts : PlanParts) (engine : Engine) (watch : W) : Type 0 where
  pub run : List Done
  pub turns : GoesByTurns (network_of parts) run
  pub over : NobodyIsLeft (network_of parts) run
  pub stand : WatchStands saw parts engine watch run

-- the run of the plan by turns was seen
pub record IsTurnsSeen {W : Type 0} (saw : W → PlanParts → List Done → Type 0) (parts : PlanParts) (callers : Callers) (watch : W) : Type 0 where
  pub run : List Done
  pub plan : IsPlan parts
  pub turns : IsTurnsRun (network_of parts) run
  pub seen : IsSeen saw parts callers watch run
