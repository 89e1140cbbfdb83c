-- The answer to a question after the least jitter is one with which the request is accepted, and isn't with a tick less. A jitter is a tick at
-- least. The delay that is wanted stays as the plan says.
use Rattle.std.specs.Prelude.{◌≡◌, ◌<◌, ℕ, ◌-◌, ◌⊎◌, Bool, true, false, Option, option_map}
use Rattle.net_units.specs.Limits.{most_delay}
use Rattle.setup_protocol.specs.Setup.{Outcome}
use Rattle.setup_protocol.specs.State.{outcome_of}
use Rattle.call_script.specs.Parts.{PlanParts}
use Rattle.question_plans.specs.declared.change.Change.TheVariants.{Jitter as ChangedJitter}
use Rattle.plan_answers.specs.Delays.{ComesTo}
use Rattle.plan_answers.specs.Trials.{is_acceptance, is_acceptance_of}
use Rattle.answer_tables.specs.declared.jitter.Between.{Between}
use Rattle.answer_tables.specs.declared.nearest.LeastJitter.{LeastJitter}
use Rattle.answer_tables.specs.declared.nearest.LeastJitter.TheVariants.{Jitter, Refused}

-- ---- with a jitter

abbrev pub IsTriedJitter : PlanParts → ℕ → ℕ → Option Outcome → Type 0
IsTriedJitter parts number jitter outcome = ComesTo parts (ChangedJitter number jitter) number outcome

pub record JitterGives (parts : PlanParts) (number jitter : ℕ) (accepted : Bool) : Type 0 where
  pub outcome : Option Outcome
  pub tried : IsTriedJitter parts number jitter outcome
  pub is : is_acceptance outcome ≡ accepted

-- it is accepted with this jitter
abbrev pub AcceptsJitter : PlanParts → ℕ → ℕ → Type 0
AcceptsJitter parts number jitter = JitterGives parts number jitter true

-- it isn't; a request can't ask for no tick at all
abbrev pub DeniesJitter : PlanParts → ℕ → ℕ → Type 0
DeniesJitter parts number jitter = (jitter ≡ 0) ⊎ JitterGives parts number jitter false

-- ---- the answer

abbrev pub IsLeastJitter : PlanParts → ℕ → LeastJitter → Type 0
IsLeastJitter parts number (Jitter jitter) = AcceptsJitter parts number jitter × DeniesJitter parts number (jitter - 1)
IsLeastJitter parts number (Refused verdict) = IsTriedJitter parts number most_delay (option_map outcome_of verdict) × (is_acceptance_of verdict ≡ false)

-- it lies between two jitters
pub record LiesBetween (parts : PlanParts) (number : ℕ) (between : Between) : Type 0 where
  pub less : between.denied < between.accepted
  pub denied : DeniesJitter parts number between.denied
  pub accepted : AcceptsJitter parts number between.accepted
