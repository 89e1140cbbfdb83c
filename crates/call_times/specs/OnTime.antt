-- Operations at ticks. Each operation of a plan's callers is given a tick. A run keeps the ticks where each step of a caller is a part of
-- one of its operations, and is made at that operation's tick T: the plane has made all rounds before round T, and no step of round T. So
-- what is done at tick T comes just before the plane's round T. A schedule of these ticks is one that plays to such a run, after which nobody
-- has a step left. (What an operation asks of the links is in `Parts`, and whose step is the next one in `run_engine`.)
use Rattle.std.specs.Prelude.{◌≡◌, ◌≢◌, ◌≤◌, ℕ, true, Some, None, List, [], ◌∷◌}
use Rattle.std.specs.List.{slice_get}
use Rattle.net_units.specs.Numbers.{actor_number}
use Rattle.link_steps.specs.Lists.{Each}
use Rattle.call_script.specs.Parts.{PlanParts}
use Rattle.call_script.specs.Tasks.{network_of}
use Rattle.call_script.specs.declared.entries.CallerEntry.{CallerEntry}
use Rattle.call_script.specs.declared.operations.Op.{Op}
use Rattle.call_script.specs.declared.schedule.Schedule.{Schedule}
use Rattle.run_engine.specs.runs.Runs.{plane_no, plane_at, next_for}
use Rattle.run_engine.specs.schedules.Schedules.{IsActorOf, IsPlayed}
use Rattle.run_record.specs.declared.done.Done.{Done}
use Rattle.call_times.specs.Parts.{is_part}
use Rattle.call_times.specs.declared.times.Times.{Times}

-- the caller of this number makes this operation at this tick
pub record IsDueAt (parts : PlanParts) (times : List Times) (caller tick : ℕ) (op : Op) : Type 0 where
  pub place : ℕ
  pub entry : CallerEntry
  pub found : slice_get parts.callers caller ≡ Some entry
  pub is : slice_get entry.ops place ≡ Some op
  pub own : Times
  pub given : slice_get times caller ≡ Some own
  pub at : slice_get own.ticks.items place ≡ Some tick

-- a caller's step is a part of an operation whose tick is the number of complete rounds, and the next round hasn't begun
pub record IsInTime (parts : PlanParts) (times : List Times) (past : List Done) (done : Done) : Type 0 where
  pub op : Op
  pub due : IsDueAt parts times (actor_number done.actor) (plane_at (network_of parts) past).round op
  pub part : is_part op done.link done.ask ≡ true
  pub before : (plane_at (network_of parts) past).ticked ≡ 0

-- each step of a caller is in time
unfoldable pub AreInTime : PlanParts → List Times → List Done → Type 0
AreInTime parts times [] = Unit {0}
AreInTime parts times (done ∷ past) = AreInTime parts times past × (actor_number done.actor ≢ plane_no (network_of parts) → IsInTime parts times past done)

-- a schedule of a plan whose run is in time, and leaves nobody a step
pub record IsScheduleAt (parts : PlanParts) (times : List Times) (schedule : Schedule) : Type 0 where
  pub run : List Done
  pub written : schedule.written ≡ true
  pub actors : Each (IsActorOf parts) schedule.items
  pub played : IsPlayed (network_of parts) schedule run
  pub in_time : AreInTime parts times run
  pub over : (actor : ℕ) → actor ≤ plane_no (network_of parts) → next_for (network_of parts) actor run ≡ None
