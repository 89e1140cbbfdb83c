-- A request is asked about at a point of a schedule: the schedule's turns up to there are played, among them those by which other channels are
-- held, and then the request's caller alone goes on until the request is decided. What it comes to is the verdict over the replies to its setup in
-- that run, and what its hops offer stands in the same replies.
use Rattle.std.specs.Prelude.{◌≡◌, ℕ, Some, List, [], ◌++◌, take}
use Rattle.std.specs.List.{slice_get}
use Rattle.net_units.specs.declared.numbers.ActorNo.{ActorNo}
use Rattle.setup_protocol.specs.Setup.{Outcome}
use Rattle.call_script.specs.Parts.{PlanParts}
use Rattle.call_script.specs.Tasks.{network_of}
use Rattle.call_script.specs.declared.entries.RequestEntry.{RequestEntry}
use Rattle.call_script.specs.declared.schedule.Do.{Do}
use Rattle.run_engine.specs.schedules.Schedules.{FollowsTurns, repeated, turns_of}
use Rattle.run_record.specs.declared.done.Done.{Done}
use Rattle.plan_answers.specs.Trials.{levels_offered, outcome_in}

-- an item with another number of steps
abbrev pub with_count : Do → ℕ → Do
with_count item count = record { line = item.line; actor = item.actor; count = count }

-- a run of these turns, after which one actor goes on
abbrev pub GoesOn : PlanParts → List ActorNo → ActorNo → List Done → Type 0
GoesOn parts turns actor run = (more : ℕ) × FollowsTurns (network_of parts) [] (turns ++ repeated more actor) run

-- the request of a number comes to this, and its hops have offered these levels, where it is asked after so many steps
pub record IsAskedAt (parts : PlanParts) (items : List Do) (start number : ℕ) (outcome : Outcome) (levels : List ℕ) : Type 0 where
  pub entry : RequestEntry
  pub asked : slice_get parts.requests number ≡ Some entry
  pub run : List Done
  pub goes : GoesOn parts (take start (turns_of items)) entry.caller run
  pub decided : outcome_in run entry.request ≡ Some outcome
  pub offered : levels ≡ levels_offered run entry.request
