-- The answer to a question after the least delay, or the least jitter, at a point of a schedule is one with which the request is accepted where it is
-- asked there, and isn't with a tick less. A delay and a jitter are a tick at least.
use Rattle.std.specs.Prelude.{◌≡◌, ◌<◌, ℕ, ◌-◌, ◌⊎◌, Bool, true, false, List}
use Rattle.net_units.specs.Limits.{most_delay}
use Rattle.setup_protocol.specs.Laws.{is_accepted}
use Rattle.setup_protocol.specs.Setup.{Outcome}
use Rattle.setup_protocol.specs.State.{outcome_of}
use Rattle.call_script.specs.Parts.{PlanParts}
use Rattle.call_script.specs.declared.schedule.Do.{Do}
use Rattle.question_plans.specs.Kept.{changed_plan}
use Rattle.question_plans.specs.declared.change.Change.{Change}
use Rattle.question_plans.specs.declared.change.Change.TheVariants.{Delay as ChangedDelay, Jitter as ChangedJitter}
use Rattle.setup_points.specs.Points.{IsAskedAt}
use Rattle.setup_points.specs.declared.least.Between.{Between}
use Rattle.setup_points.specs.declared.least.LeastAt.{LeastAt}
use Rattle.setup_points.specs.declared.least.LeastAt.TheVariants.{Ticks, Refused}
use Rattle.setup_points.specs.declared.least.Question.{Question}
use Rattle.setup_points.specs.declared.least.Sought.{Sought}
use Rattle.setup_points.specs.declared.least.Sought.TheVariants.{Delay, Jitter}

-- ---- with so many ticks

-- the change by which a request wants them
abbrev pub change_for : Sought → ℕ → ℕ → Change
change_for Delay number ticks = ChangedDelay number ticks
change_for Jitter number ticks = ChangedJitter number ticks

-- it comes to this with them
abbrev pub IsTried : PlanParts → List Do → Question → ℕ → Outcome → Type 0
IsTried parts items question ticks outcome =
    (levels : List ℕ) × IsAskedAt (changed_plan (change_for question.sought question.number ticks) parts) items question.start question.number outcome levels

pub record Gives (parts : PlanParts) (items : List Do) (question : Question) (ticks : ℕ) (accepted : Bool) : Type 0 where
  pub outcome : Outcome
  pub tried : IsTried parts items question ticks outcome
  pub is : is_accepted outcome ≡ accepted

-- it is accepted with them
abbrev pub Accepts : PlanParts → List Do → Question → ℕ → Type 0
Accepts parts items question ticks = Gives parts items question ticks true

-- it isn't; a request can't ask for no tick at all
abbrev pub Denies : PlanParts → List Do → Question → ℕ → Type 0
Denies parts items question ticks = (ticks ≡ 0) ⊎ Gives parts items question ticks false

-- ---- the answer

abbrev pub IsLeastAt : PlanParts → List Do → Question → LeastAt → Type 0
IsLeastAt parts items question (Ticks ticks) = Accepts parts items question ticks × Denies parts items question (ticks - 1)
IsLeastAt parts items question (Refused verdict) = IsTried parts items question most_delay (outcome_of verdict) × (is_accepted (outcome_of verdict) ≡ false)

-- it lies between two numbers of ticks
pub record LiesBetween (parts : PlanParts) (items : List Do) (question : Question) (between : Between) : Type 0 where
  pub less : between.denied < between.accepted
  pub denied : Denies parts items question between.denied
  pub accepted : Accepts parts items question between.accepted
