-- The row of a request says what it comes to in a trial of the plan's requests alone, which levels its hops have offered there, and with which
-- delay and which jitter it would be accepted. The least delay is asked for whatever the jitter, so that a request whose jitter is controlled is
-- taken to want the largest that may be asked for; and the least jitter is asked for with that least delay.
use Rattle.std.specs.Prelude.{◌≡◌, ℕ, Option, Some, None, List, map, option_map}
use Rattle.std.specs.List.{slice_get}
use Rattle.net_units.specs.Limits.{most_delay}
use Rattle.net_units.specs.Numbers.{level_number}
use Rattle.setup_protocol.specs.State.{outcome_of}
use Rattle.setup_protocol.specs.declared.request.Control.{Control}
use Rattle.setup_protocol.specs.declared.request.Control.TheVariants.{Jitter as JitterControl}
use Rattle.call_script.specs.Parts.{PlanParts}
use Rattle.call_script.specs.declared.entries.RequestEntry.{RequestEntry}
use Rattle.question_plans.specs.Alone.{alone_of}
use Rattle.question_plans.specs.declared.change.Change.{Change}
use Rattle.question_plans.specs.declared.change.Change.TheVariants.{Nothing, Delay, Jitter}
use Rattle.plan_answers.specs.Delays.{IsLeast}
use Rattle.plan_answers.specs.Trials.{levels_offered, outcome_in, run_in}
use Rattle.plan_answers.specs.declared.least.Least.{Least}
use Rattle.plan_answers.specs.declared.least.Least.TheVariants as variants
use Rattle.plan_answers.specs.declared.trial.Trial.{Trial}
use Rattle.answer_tables.specs.Jitters.{IsLeastJitter}
use Rattle.answer_tables.specs.declared.rows.RequestRow.{RequestRow}

-- the change by which a request whose jitter is controlled wants none that is short
abbrev pub loosened_by : ℕ → Control → Change
loosened_by number (JitterControl _) = Jitter number most_delay
loosened_by number _ = Nothing

abbrev pub loosened_for : ℕ → Option RequestEntry → Change
loosened_for number None = Nothing
loosened_for number (Some entry) = loosened_by number entry.request.control

abbrev pub loosened : ℕ → List RequestEntry → Change
loosened number entries = loosened_for number (slice_get entries number)

-- the change by which a request wants its least delay
abbrev pub shortened : ℕ → Least → Change
shortened number (variants.Delay delay) = Delay number delay
shortened number (variants.Refused _) = Nothing

pub record IsRow (parts : PlanParts) (trial : Trial) (number : ℕ) (row : RequestRow) : Type 0 where
  pub verdict : (entry : RequestEntry) → slice_get trial.plan.requests number ≡ Some entry → option_map outcome_of row.verdict ≡ outcome_in (run_in trial) entry.request
  pub offers : (entry : RequestEntry) → slice_get trial.plan.requests number ≡ Some entry → map level_number row.offers.items ≡ levels_offered (run_in trial) entry.request
  pub least : IsLeast (alone_of (loosened number parts.requests) parts) number row.least
  pub jitter : IsLeastJitter (alone_of (shortened number row.least) parts) number row.jitter
