-- A run under way, and the schedule that has counted its steps: complete items, and one of so many steps of the last actor.
use Rattle.std.specs.Prelude.{◌≡◌, ◌≢◌, ◌≤◌, ◌<◌, ℕ, Some, List, [], ◌++◌, length}
use Rattle.std.specs.List.{slice_get}
use Rattle.net_units.specs.Numbers.{actor_number}
use Rattle.net_units.specs.declared.numbers.ActorNo.{ActorNo}
use Rattle.link_steps.specs.Lists.{Each}
use Rattle.call_script.specs.Parts.{PlanParts}
use Rattle.call_script.specs.Tasks.{network_of}
use Rattle.call_script.specs.declared.entries.CallerEntry.{CallerEntry}
use Rattle.call_script.specs.declared.operations.Op.{Op}
use Rattle.run_engine.specs.runs.Runs.{plane_at}
use Rattle.run_engine.specs.schedules.Schedules.{FollowsTurns, IsActorOf, repeated, turns_of}
use Rattle.run_engine.specs.schedules.Standing.{EngineStands}
use Rattle.run_record.specs.declared.done.Done.{Done}
use Rattle.call_times.specs.OnTime.{AreInTime, IsDueAt}
use Rattle.call_times.specs.declared.making.Making.{Making}
use Rattle.call_times.specs.declared.scheduling.Due.{Due}
use Rattle.call_times.specs.declared.times.Times.{Times}

-- the turns that were counted
unfoldable pub turns_made : Making → List ActorNo
turns_made making = turns_of making.items.items ++ repeated making.count making.actor

-- each item's actor is one of the plan
pub record HaveActors (parts : PlanParts) (making : Making) : Type 0 where
  pub items : Each (IsActorOf parts) making.items.items
  pub own : actor_number making.actor ≤ length parts.callers

-- the run was made by these turns, in time
pub record IsMade (parts : PlanParts) (times : List Times) (making : Making) (run : List Done) : Type 0 where
  pub stands : EngineStands parts making.engine run
  pub turns : FollowsTurns (network_of parts) [] (turns_made making) run
  pub actors : HaveActors parts making
  pub in_time : AreInTime parts times run

-- a run was made
pub record HasRun (parts : PlanParts) (times : List Times) (making : Making) : Type 0 where
  pub run : List Done
  pub made : IsMade parts times making run

-- a run was made, and no step of the round is made
pub record IsBetween (parts : PlanParts) (times : List Times) (making : Making) : Type 0 where
  pub run : List Done
  pub made : IsMade parts times making run
  pub starts : (plane_at (network_of parts) run).ticked ≡ 0

-- a run was made, and where its round isn't this one any more, no step of it is made
pub record IsInRound (parts : PlanParts) (times : List Times) (making : Making) (round : ℕ) : Type 0 where
  pub run : List Done
  pub made : IsMade parts times making run
  pub starts : (plane_at (network_of parts) run).round ≢ round → (plane_at (network_of parts) run).ticked ≡ 0

-- it is time for an operation of an actor
pub record IsTimeFor (parts : PlanParts) (times : List Times) (making : Making) (actor : ActorNo) (op : Op) : Type 0 where
  pub run : List Done
  pub made : IsMade parts times making run
  pub starts : (plane_at (network_of parts) run).ticked ≡ 0
  pub caller : actor_number actor < length parts.callers
  pub due : IsDueAt parts times (actor_number actor) (plane_at (network_of parts) run).round op

-- the caller of this number has this operation at this place
pub record IsOperationAt (parts : PlanParts) (caller place : ℕ) (op : Op) : Type 0 where
  pub entry : CallerEntry
  pub found : slice_get parts.callers caller ≡ Some entry
  pub is : slice_get entry.ops place ≡ Some op

-- the operation whose turn it is has this tick
pub record IsDue (times : List Times) (due : Due) : Type 0 where
  pub own : Times
  pub given : slice_get times due.caller ≡ Some own
  pub at : slice_get own.ticks.items due.place ≡ Some due.tick
