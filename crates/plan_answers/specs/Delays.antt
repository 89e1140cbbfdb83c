-- A request *comes to* an outcome with what is wanted for it where the plan's requests alone, with that, have a run in which it comes to that.
-- The answer to a question after the least delay is one with which it is accepted, and isn't with a tick less. A delay is a tick at least.
use Rattle.std.specs.Prelude.{◌≡◌, ◌<◌, ℕ, ◌-◌, ◌⊎◌, Bool, true, false, Option, Some, List, option_map, map}
use Rattle.std.specs.List.{slice_get}
use Rattle.net_units.specs.Limits.{most_delay}
use Rattle.setup_protocol.specs.Setup.{Outcome}
use Rattle.setup_protocol.specs.State.{outcome_of}
use Rattle.call_script.specs.Parts.{PlanParts}
use Rattle.call_script.specs.declared.entries.RequestEntry.{RequestEntry}
use Rattle.run_record.specs.declared.done.Done.{Done}
use Rattle.question_plans.specs.Alone.{alone_of, changed}
use Rattle.question_plans.specs.declared.change.Change.{Change}
use Rattle.question_plans.specs.declared.change.Change.TheVariants.{Delay}
use Rattle.plan_answers.specs.Trials.{IsRunOf, outcome_in, is_acceptance, is_acceptance_of}
use Rattle.plan_answers.specs.declared.least.Between.{Between}
use Rattle.plan_answers.specs.declared.least.Least.{Least}
use Rattle.plan_answers.specs.declared.least.Least.TheVariants as least

-- ---- with what is wanted

pub record ComesTo (parts : PlanParts) (change : Change) (number : ℕ) (outcome : Option Outcome) : Type 0 where
  pub run : List Done
  pub played : IsRunOf (alone_of change parts) run
  pub entry : RequestEntry
  pub asked : slice_get (map (changed change) parts.requests) number ≡ Some entry
  pub is : outcome ≡ outcome_in run entry.request

-- ---- with a delay

abbrev pub IsTried : PlanParts → ℕ → ℕ → Option Outcome → Type 0
IsTried parts number delay outcome = ComesTo parts (Delay number delay) number outcome

pub record DelayGives (parts : PlanParts) (number delay : ℕ) (accepted : Bool) : Type 0 where
  pub outcome : Option Outcome
  pub tried : IsTried parts number delay outcome
  pub is : is_acceptance outcome ≡ accepted

-- it is accepted with this delay
abbrev pub AcceptsDelay : PlanParts → ℕ → ℕ → Type 0
AcceptsDelay parts number delay = DelayGives parts number delay true

-- it isn't; a request can't ask for no tick at all
abbrev pub DeniesDelay : PlanParts → ℕ → ℕ → Type 0
DeniesDelay parts number delay = (delay ≡ 0) ⊎ DelayGives parts number delay false

-- ---- the answer

abbrev pub IsLeast : PlanParts → ℕ → Least → Type 0
IsLeast parts number (least.Delay delay) = AcceptsDelay parts number delay × DeniesDelay parts number (delay - 1)
IsLeast parts number (least.Refused verdict) = IsTried parts number most_delay (option_map outcome_of verdict) × (is_acceptance_of verdict ≡ false)

-- it lies between two delays
pub record LiesBetween (parts : PlanParts) (number : ℕ) (between : Between) : Type 0 where
  pub less : between.denied < between.accepted
  pub denied : DeniesDelay parts number between.denied
  pub accepted : AcceptsDelay parts number between.accepted
