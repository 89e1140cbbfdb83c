-- There is room for a number of requests like one of the plan's where all of them are accepted after the plan's own; and no more than that
-- where of one more a request isn't accepted, which is then told with what it comes to, or where a plan has no more requests.
use Rattle.std.specs.Prelude.{◌≡◌, ℕ, ◌+◌, ◌<◌, ◌≤◌, ◌⊎◌, Option, Some, None, List, [], ◌∷◌, if◌then◌else◌, drop, option_map, length}
use Rattle.net_units.specs.Limits.{most_requests}
use Rattle.setup_protocol.specs.Setup.{Outcome}
use Rattle.setup_protocol.specs.State.{outcome_of}
use Rattle.call_script.specs.Parts.{PlanParts}
use Rattle.call_script.specs.declared.entries.RequestEntry.{RequestEntry}
use Rattle.run_record.specs.declared.done.Done.{Done}
use Rattle.question_plans.specs.More.{IsWithMore}
use Rattle.plan_answers.specs.Trials.{IsRunOf, outcome_in, is_acceptance}
use Rattle.plan_answers.specs.declared.fit.Between.{Between}
use Rattle.plan_answers.specs.declared.fit.Next.{Next}
use Rattle.plan_answers.specs.declared.fit.Next.TheVariants.{Refused, Full}
use Rattle.plan_answers.specs.declared.fit.Room.{Room}
use Rattle.plan_answers.specs.declared.fit.Tried.{Tried}
use Rattle.plan_answers.specs.declared.fit.Tried.TheVariants as tried

-- what the first of these requests that isn't accepted in a run has come to
unfoldable pub refused_among : List Done → List RequestEntry → Option (Option Outcome)
refused_among run [] = None
refused_among run (entry ∷ entries) = if is_acceptance (outcome_in run entry.request) then refused_among run entries else Some (outcome_in run entry.request)

-- the same of those from this number on
abbrev pub refused_from : List Done → ℕ → List RequestEntry → Option (Option Outcome)
refused_from run first entries = refused_among run (drop first entries)

-- with this many more, this is what the first of them that isn't accepted comes to, if there is one
pub record IsTriedWith (parts : PlanParts) (number count : ℕ) (refused : Option (Option Outcome)) : Type 0 where
  pub made : PlanParts
  pub is : IsWithMore parts number count made
  pub run : List Done
  pub played : IsRunOf made run
  pub first : refused ≡ refused_from run (length parts.requests) made.requests

-- what is told of it
abbrev pub refused_in : Tried → Option (Option Outcome)
refused_in tried.Accepted = None
refused_in (tried.Refused verdict) = Some (option_map outcome_of verdict)

-- ---- the answer

-- this many more are all accepted
abbrev pub AreAccepted : PlanParts → ℕ → ℕ → Type 0
AreAccepted parts number count = (count ≡ 0) ⊎ IsTriedWith parts number count None

-- of one more a request isn't, which comes to this, or no plan has one more
abbrev pub IsNext : PlanParts → ℕ → ℕ → Next → Type 0
IsNext parts number count (Refused verdict) = IsTriedWith parts number (count + 1) (Some (option_map outcome_of verdict))
IsNext parts number count Full = most_requests ≤ length parts.requests + count

pub record IsRoom (parts : PlanParts) (number : ℕ) (room : Room) : Type 0 where
  pub fits : AreAccepted parts number room.count
  pub next : IsNext parts number room.count room.next

-- the room lies between two numbers
pub record LiesBetween (parts : PlanParts) (number : ℕ) (between : Between) : Type 0 where
  pub less : between.accepted < between.refused
  pub accepted : AreAccepted parts number between.accepted
  pub refused : IsTriedWith parts number between.refused (Some (option_map outcome_of between.why))
