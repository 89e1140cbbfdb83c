-- What a variant of a scenario comes to is said of its text alone, whatever the other variants are and in whatever order they are judged. The text
-- is read as a scenario. Where a line is refused, the outcome has the number of that line. Where a plan is read, its requests alone, one after
-- the other, have a run, and each request is promised the delay of its acceptance there, or none.
use Rattle.std.specs.Prelude.{◌≡◌, ℕ, IfOk, Option, Some, None, List, map}
use Rattle.call_script.specs.Parts.{PlanParts}
use Rattle.call_script.specs.declared.entries.RequestEntry.{RequestEntry}
use Rattle.network_variants.specs.Variants.{text_in, word_at}
use Rattle.network_variants.specs.declared.making.Form.TheVariants.{Scenario}
use Rattle.network_variants.specs.declared.variants.Variants.{Variants}
use Rattle.plan_answers.specs.Trials.{IsRunOf, outcome_in}
use Rattle.question_plans.specs.Alone.{alone_of}
use Rattle.question_plans.specs.declared.change.Change.TheVariants.{Nothing}
use Rattle.run_record.specs.declared.done.Done.{Done}
use Rattle.scenario_reader.specs.declared.reader.TheConstants.{MOST_BYTES}
use Rattle.scenario_reader.specs.Reading.{Reading, PlanRead, BadLine, TooManyBytes, reading}
use Rattle.setup_protocol.specs.Setup.{Outcome as Settled, Accepts, Denies}
use Rattle.variant_answers.specs.declared.outcome.Judged.{Judged}
use Rattle.variant_answers.specs.declared.outcome.Outcome.{Outcome}
use Rattle.variant_answers.specs.declared.outcome.Outcome.TheVariants as outcome
use Rattle.variant_answers.specs.declared.outcome.Wanted.{Wanted}
use Rattle.variant_answers.specs.declared.rows.Seat.{Seat}

-- ---- what requests are promised

-- the delay that an acceptance promises
abbrev pub promised_by : Option Settled → Option ℕ
promised_by None = None
promised_by (Some (Accepts levels delay)) = Some delay
promised_by (Some (Denies why)) = None

-- what each of these requests is promised in a run
abbrev pub promised_in : List Done → List RequestEntry → List (Option ℕ)
promised_in run entries = map (λ entry. promised_by (outcome_in run entry.request)) entries

-- the requests of a plan alone have a run in which they are promised this
pub record IsJudged (parts : PlanParts) (judged : Judged) : Type 0 where
  pub run : List Done
  pub played : IsRunOf (alone_of Nothing parts) run
  pub promised : judged.promised.items ≡ promised_in run (alone_of Nothing parts).requests
  pub named : judged.names.items ≡ map (λ entry. entry.name) (alone_of Nothing parts).requests

-- ---- what a text comes to

-- a line of this number is refused
abbrev pub IsRefusedAt : ℕ → Outcome → Type 0
IsRefusedAt line (outcome.Refused at text) = line ≡ at
IsRefusedAt line (outcome.Judged judged) = ⊥

abbrev pub IsJudgedBy : PlanParts → Outcome → Type 0
IsJudgedBy parts (outcome.Judged judged) = IsJudged parts judged
IsJudgedBy parts (outcome.Refused at text) = ⊥

abbrev pub ComesTo : Reading → Outcome → Type 0
ComesTo (PlanRead parts schedule) = IsJudgedBy parts
ComesTo (BadLine line cause) = IsRefusedAt line
ComesTo TooManyBytes = IsRefusedAt 1

-- the outcome is that of these bytes as a scenario; of a design nothing is said
abbrev pub IsOutcome : Wanted → List ℕ → Outcome → Type 0
IsOutcome wanted bytes outcome = wanted.form ≡ Scenario → ComesTo (reading MOST_BYTES bytes) outcome

-- ---- all variants

-- the outcome is that of the variant of this number
abbrev pub IsOutcomeAt : Wanted → Variants → ℕ → Outcome → Type 0
IsOutcomeAt wanted variants number outcome = IsOutcome wanted (text_in (word_at variants.changes.items number) variants.lines.items) outcome

-- a place of a variant holds its outcome, or why there is none
abbrev pub IsSeat : Wanted → Variants → ℕ → Seat → Type 0
IsSeat wanted variants number seat = IfOk seat.outcome (IsOutcomeAt wanted variants number)
