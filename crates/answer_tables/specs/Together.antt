-- There is room for a number of copies of each of several requests where all of them are accepted after the plan's own: first all copies of the
-- first request, then those of the second, and so on, each kind opened by one more caller. There is room for no more than that where, with one
-- more of each, a copy isn't accepted, of which is told what it comes to and which request it is like; or where a plan has no room for
-- as many requests.
use Rattle.std.specs.Prelude.{◌≡◌, ℕ, suc, ◌+◌, ◌-◌, ◌*◌, ◌/◌, ◌<◌, ◌⊎◌, Option, Some, None, List, [], ◌∷◌, if◌then◌else◌, drop, option_map, length, reverse}
use Rattle.std.specs.List.{slice_get}
use Rattle.net_units.specs.Limits.{most_requests}
use Rattle.setup_protocol.specs.Setup.{Outcome}
use Rattle.setup_protocol.specs.State.{outcome_of}
use Rattle.call_script.specs.Parts.{PlanParts}
use Rattle.call_script.specs.declared.entries.RequestEntry.{RequestEntry}
use Rattle.run_record.specs.declared.done.Done.{Done}
use Rattle.question_plans.specs.Alone.{alone_of}
use Rattle.question_plans.specs.More.{IsWithMore}
use Rattle.question_plans.specs.declared.change.Change.TheVariants.{Nothing}
use Rattle.plan_answers.specs.Trials.{IsRunOf, is_acceptance, outcome_in}
use Rattle.answer_tables.specs.declared.together.Between.{Between}
use Rattle.answer_tables.specs.declared.together.NextTogether.{NextTogether}
use Rattle.answer_tables.specs.declared.together.NextTogether.TheVariants.{Refused, Full}
use Rattle.answer_tables.specs.declared.together.Refused.{Refused as RefusedRequest}
use Rattle.answer_tables.specs.declared.together.RoomTogether.{RoomTogether}
use Rattle.answer_tables.specs.declared.together.Tried.{Tried}
use Rattle.answer_tables.specs.declared.together.Tried.TheVariants as tried

-- ---- the plan

-- a plan is another's requests alone, with this many copies of each of its requests of these numbers after them; the last number comes first
unfoldable pub IsWithEach : PlanParts → List ℕ → ℕ → PlanParts → Type 0
IsWithEach parts [] count made = made ≡ alone_of Nothing parts
IsWithEach parts (number ∷ before) count made =
    (number < length parts.requests) × ((so_far : PlanParts) × IsWithEach parts before count so_far × IsWithMore so_far number count made)

-- ---- the first request that isn't accepted

-- the number of the first of these requests that isn't accepted in a run, and what it has come to; the first of them has this number
unfoldable pub refused_at : List Done → ℕ → List RequestEntry → Option (ℕ × Option Outcome)
refused_at run n [] = None
refused_at run n (entry ∷ entries) = if is_acceptance (outcome_in run entry.request) then refused_at run (suc n) entries else Some (n, outcome_in run entry.request)

-- the same of those from this number on
abbrev pub first_refused : List Done → ℕ → List RequestEntry → Option (ℕ × Option Outcome)
first_refused run first entries = refused_at run first (drop first entries)

-- what is told of it
abbrev pub refused_in : Option RefusedRequest → Option (ℕ × Option Outcome)
refused_in None = None
refused_in (Some refused) = Some (refused.at, option_map outcome_of refused.verdict)

-- ---- with this many more of each

-- this is the first copy that isn't accepted, if there is one
pub record IsTriedWith (parts : PlanParts) (numbers : List ℕ) (count : ℕ) (refused : Option (ℕ × Option Outcome)) : Type 0 where
  pub made : PlanParts
  pub is : IsWithEach parts (reverse numbers) count made
  pub run : List Done
  pub played : IsRunOf made run
  pub first : refused ≡ first_refused run (length parts.requests) made.requests

-- the first copy that isn't accepted comes to this, and is like the request of this number: there are as many copies of each, in the
-- order of the numbers, after the plan's own requests
pub record IsRefused (parts : PlanParts) (numbers : List ℕ) (count number : ℕ) (outcome : Option Outcome) : Type 0 where
  pub at : ℕ
  pub tried : IsTriedWith parts numbers count (Some (at, outcome))
  pub like : slice_get numbers ((at - length parts.requests) / count) ≡ Some number

abbrev pub IsTriedTogether : PlanParts → List ℕ → ℕ → Tried → Type 0
IsTriedTogether parts numbers count tried.Accepted = IsTriedWith parts numbers count None
IsTriedTogether parts numbers count (tried.Refused refusal) = IsRefused parts numbers count refusal.number (option_map outcome_of refusal.verdict)

-- ---- the answer, by what so many more of each come to

-- all are accepted
abbrev pub AreAccepted : (ℕ → Tried → Type 0) → ℕ → Type 0
AreAccepted tries count = (count ≡ 0) ⊎ tries count tried.Accepted

-- of one more of each a copy isn't accepted, or no plan has one more of each
abbrev pub IsNext : (ℕ → Tried → Type 0) → PlanParts → List ℕ → ℕ → NextTogether → Type 0
IsNext tries parts numbers count (Refused number verdict tight) = tries (count + 1) (tried.Refused (record { number = number; verdict = verdict; tight = tight }))
IsNext tries parts numbers count Full = most_requests < length parts.requests + length numbers * (count + 1)

pub record IsRoomOf (tries : ℕ → Tried → Type 0) (parts : PlanParts) (numbers : List ℕ) (room : RoomTogether) : Type 0 where
  pub fits : AreAccepted tries room.count
  pub next : IsNext tries parts numbers room.count room.next

-- among a plan's requests alone
abbrev pub IsRoomTogether : PlanParts → List ℕ → RoomTogether → Type 0
IsRoomTogether parts numbers room = IsRoomOf (IsTriedTogether parts numbers) parts numbers room

-- the room lies between two numbers
pub record LiesBetween (tries : ℕ → Tried → Type 0) (between : Between) : Type 0 where
  pub less : between.accepted < between.refused
  pub accepted : AreAccepted tries between.accepted
  pub refused : tries between.refused (tried.Refused between.why)
