-- There is room for a number of copies of each of several requests at the end of a schedule where all of them are accepted after it: first all copies
-- of the first request, then those of the second, and so on. There is room for no more than that where, with one more of each, a copy isn't
-- accepted, of which is told what it comes to and which request it is like; or where a plan has no room for as many requests. Each kind is
-- opened by one more caller, which makes its steps once all turns of the schedule and those of the kinds before are played. The plane comes after
-- the callers, so its number is higher there.
use Rattle.std.specs.Prelude.{◌≡◌, ℕ, zero, suc, ◌+◌, ◌-◌, ◌/◌, ◌<◌, nat_eq, if◌then◌else◌, Option, Some, None, List, [], ◌∷◌, ◌++◌, length, map, option_map, reverse}
use Rattle.std.specs.List.{slice_get}
use Rattle.net_units.specs.Numbers.{actor_at, actor_number}
use Rattle.net_units.specs.declared.numbers.ActorNo.{ActorNo}
use Rattle.setup_protocol.specs.Setup.{Outcome}
use Rattle.setup_protocol.specs.State.{outcome_of}
use Rattle.call_script.specs.Parts.{PlanParts}
use Rattle.call_script.specs.Tasks.{network_of}
use Rattle.call_script.specs.declared.schedule.Do.{Do}
use Rattle.question_plans.specs.Kept.{changed_plan}
use Rattle.question_plans.specs.More.{IsWithMoreAfter}
use Rattle.question_plans.specs.declared.change.Change.TheVariants.{Nothing}
use Rattle.run_engine.specs.schedules.Schedules.{FollowsTurns, repeated, turns_of}
use Rattle.run_record.specs.declared.done.Done.{Done}
use Rattle.answer_tables.specs.Together.{IsRoomOf, first_refused}
use Rattle.answer_tables.specs.declared.together.RoomTogether.{RoomTogether}
use Rattle.answer_tables.specs.declared.together.Tried.{Tried}
use Rattle.answer_tables.specs.declared.together.Tried.TheVariants as tried
use Rattle.setup_points.specs.declared.room.Refused.{Refused}

-- ---- the plan

-- a plan is another with all that its callers do, and with this many copies of each of its requests of these numbers after its own; the last
-- number comes first
unfoldable pub IsWithEachAfter : PlanParts → List ℕ → ℕ → PlanParts → Type 0
IsWithEachAfter parts [] count made = made ≡ changed_plan Nothing parts
IsWithEachAfter parts (number ∷ before) count made =
    (number < length parts.requests) × ((so_far : PlanParts) × IsWithEachAfter parts before count so_far × IsWithMoreAfter so_far number count made)

-- ---- the turns

-- an actor's number among so many callers more: the plane, which has the number of callers, comes as many later
abbrev pub actor_among : ℕ → ℕ → ActorNo → ActorNo
actor_among callers more actor = if nat_eq (actor_number actor) callers then actor_at (callers + more) else actor

-- so many steps of an actor
abbrev pub steps_by : ActorNo → ℕ → Do
steps_by actor count = record { line = 0; actor = actor; count = count }

-- so many actors, from a number on; the last one comes first
unfoldable pub openers : ℕ → ℕ → List ActorNo
openers first zero = []
openers first (suc n) = actor_at (first + n) ∷ openers first n

-- turns of these actors, one after the other; the last actor comes first
unfoldable pub AreTurnsOf : List ActorNo → List ActorNo → Type 0
AreTurnsOf [] turns = turns ≡ []
AreTurnsOf (actor ∷ before) turns = (count : ℕ) × ((so_far : List ActorNo) × AreTurnsOf before so_far × (turns ≡ so_far ++ repeated count actor))

-- turns that are followed by some of these actors, one after the other
pub record AreFollowedBy (turns actors all : List ActorNo) : Type 0 where
  pub more : List ActorNo
  pub are : AreTurnsOf actors more
  pub is : all ≡ turns ++ more

-- a run of these turns, after which these actors go on, one after the other
pub record GoOn (parts : PlanParts) (turns actors : List ActorNo) (run : List Done) : Type 0 where
  pub all : List ActorNo
  pub followed : AreFollowedBy turns actors all
  pub follows : FollowsTurns (network_of parts) [] all run

-- ---- some more of each

-- what is told of the first that isn't accepted
abbrev pub refused_in : Option Refused → Option (ℕ × Option Outcome)
refused_in None = None
refused_in (Some refused) = Some (refused.at, option_map outcome_of refused.verdict)

-- with this many more of each, this is the first copy that isn't accepted, if there is one
pub record IsTriedAfter (parts : PlanParts) (items : List Do) (numbers : List ℕ) (count : ℕ) (refused : Option (ℕ × Option Outcome)) : Type 0 where
  pub made : PlanParts
  pub is : IsWithEachAfter parts (reverse numbers) count made
  pub run : List Done
  pub goes : GoOn made (map (actor_among (length parts.callers) (length numbers)) (turns_of items)) (openers (length parts.callers) (length numbers)) run
  pub first : refused ≡ first_refused run (length parts.requests) made.requests

-- the first copy that isn't accepted comes to this, and is like the request of this number
pub record IsRefusedAfter (parts : PlanParts) (items : List Do) (numbers : List ℕ) (count number : ℕ) (outcome : Option Outcome) : Type 0 where
  pub at : ℕ
  pub tried : IsTriedAfter parts items numbers count (Some (at, outcome))
  pub like : slice_get numbers ((at - length parts.requests) / count) ≡ Some number

abbrev pub IsTriedTogetherAfter : PlanParts → List Do → List ℕ → ℕ → Tried → Type 0
IsTriedTogetherAfter parts items numbers count tried.Accepted = IsTriedAfter parts items numbers count None
IsTriedTogetherAfter parts items numbers count (tried.Refused refusal) = IsRefusedAfter parts items numbers count refusal.number (option_map outcome_of refusal.verdict)

-- ---- the answer

abbrev pub IsRoomAfter : PlanParts → List Do → List ℕ → RoomTogether → Type 0
IsRoomAfter parts items numbers room = IsRoomOf (IsTriedTogetherAfter parts items numbers) parts numbers room
