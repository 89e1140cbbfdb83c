-- The requests of a network are asked among its requests alone or, where it has a schedule, where their own setups begin in the schedule's run. An
-- answer about a request is a yes where the request is accepted there, and the table where all are. There is room for more like some of them
-- after all of the network's requests or, where it has a schedule, once the setups of these have ended in its run, of which the answer shows how many.
use Rattle.std.specs.Prelude.{◌≡◌, ℕ, suc, nat_lt, Bool, true, false, Some, List, [], ◌∷◌, length, option_map, take}
use Rattle.std.specs.List.{list_all, slice_get}
use Rattle.call_script.specs.Tasks.{network_of}
use Rattle.call_script.specs.declared.schedule.Do.{Do}
use Rattle.question_plans.specs.Alone.{alone_of}
use Rattle.question_plans.specs.declared.change.Change.TheVariants.{Nothing}
use Rattle.run_engine.specs.schedules.Schedules.{IsPlayed, turns_of}
use Rattle.plan_answers.specs.Trials.{IsTrial, is_acceptance_of}
use Rattle.answer_grids.specs.declared.grid.Answer.{Answer}
use Rattle.answer_grids.specs.declared.grid.Cell.TheVariants.{Number}
use Rattle.answer_tables.specs.Rows.{IsRow}
use Rattle.answer_tables.specs.Together.{IsRoomTogether}
use Rattle.answer_tables.specs.declared.rows.RequestRow.{RequestRow}
use Rattle.answer_tables.specs.declared.together.RoomTogether.{RoomTogether}
use Rattle.setup_points.specs.Rooms.{IsRoomAfter}
use Rattle.setup_points.specs.Rows.{IsRowAt}
use Rattle.setup_points.specs.Runs.{IsRunFor, run_in}
use Rattle.setup_points.specs.Starts.{end_of_all}
use Rattle.setup_points.specs.declared.run.ScheduledRun.{ScheduledRun}
use Rattle.network_files.specs.declared.network.Network.{Network}
use Rattle.network_questions.specs.declared.asking.Asking.{Asking}
use Rattle.network_questions.specs.declared.asking.Asking.TheVariants.{Alone, Scheduled}

-- ---- where they are asked

-- the run is that of the network's schedule
pub record IsScheduledRun (network : Network) (run : ScheduledRun) : Type 0 where
  pub written : network.schedule.written ≡ true
  pub stands : IsRunFor network.plan run
  pub played : IsPlayed (network_of network.plan) network.schedule (run_in run)

abbrev pub AskingStands : Network → Asking → Type 0
AskingStands network (Alone trial) = (network.schedule.written ≡ false) × (IsTrial trial × (trial.plan ≡ alone_of Nothing network.plan))
AskingStands network (Scheduled run) = IsScheduledRun network run

-- ---- the row of a request

abbrev pub IsRowOf : Network → Asking → ℕ → RequestRow → Type 0
IsRowOf network (Alone trial) number row = IsRow network.plan trial number row
IsRowOf network (Scheduled run) number row = IsRowAt network.plan network.schedule.items run number row

-- the rows of the requests from a number on
unfoldable pub AreRowsFrom : Network → Asking → ℕ → List RequestRow → Type 0
AreRowsFrom network asking number [] = Unit {0}
AreRowsFrom network asking number (row ∷ rows) = IsRowOf network asking number row × AreRowsFrom network asking (suc number) rows

-- the rows of all requests, in their order
pub record AreRowsOf (network : Network) (asking : Asking) (rows : List RequestRow) : Type 0 where
  pub are : AreRowsFrom network asking 0 rows
  pub all : length rows ≡ length network.plan.requests

-- ---- the answers

abbrev pub is_accepted_row : RequestRow → Bool
is_accepted_row row = is_acceptance_of row.verdict

abbrev pub are_accepted : List RequestRow → Bool
are_accepted rows = list_all is_accepted_row rows

-- the table is a yes exactly where all requests are accepted
pub record IsTableOf (network : Network) (answer : Answer) : Type 0 where
  pub asking : Asking
  pub stands : AskingStands network asking
  pub rows : List RequestRow
  pub are : AreRowsOf network asking rows
  pub holds : answer.holds ≡ are_accepted rows

-- an answer about one request is a yes exactly where it is accepted
pub record AnswersOf (network : Network) (number : ℕ) (answer : Answer) : Type 0 where
  pub asking : Asking
  pub stands : AskingStands network asking
  pub row : RequestRow
  pub is : IsRowOf network asking number row
  pub holds : answer.holds ≡ is_accepted_row row

-- ---- room

-- the items up to where the setups of these requests have ended in a run of the network's schedule
abbrev pub IsFrontOf : Network → ScheduledRun → List ℕ → List Do → Type 0
IsFrontOf network run numbers front = turns_of front ≡ take (end_of_all network.plan.requests (run_in run) numbers) (turns_of network.schedule.items)

-- there is room for so many once the setups of these requests have ended in the run of the network's schedule
pub record IsRoomScheduled (network : Network) (numbers : List ℕ) (room : RoomTogether) : Type 0 where
  pub run : ScheduledRun
  pub is_run : IsScheduledRun network run
  pub front : List Do
  pub until : IsFrontOf network run numbers front
  pub room_is : IsRoomAfter network.plan front numbers room

abbrev pub IsRoomBy : Bool → Network → List ℕ → RoomTogether → Type 0
IsRoomBy true network numbers room = IsRoomScheduled network numbers room
IsRoomBy false network numbers room = IsRoomTogether network.plan numbers room

abbrev pub IsRoomIn : Network → List ℕ → RoomTogether → Type 0
IsRoomIn network numbers room = IsRoomBy network.schedule.written network numbers room

-- the answer is a yes where that is one of each at least, and its row begins with the number
pub record ShowsCount (count : ℕ) (answer : Answer) : Type 0 where
  pub holds : answer.holds ≡ nat_lt 0 count
  pub shown : option_map (λ cells. slice_get cells.items 0) (slice_get answer.grid.rows.items 0) ≡ Some (Some (Number count))

pub record ShowsRoom (network : Network) (numbers : List ℕ) (answer : Answer) : Type 0 where
  pub room : RoomTogether
  pub is : IsRoomIn network numbers room
  pub shows : ShowsCount room.count answer
