-- The row of a request in the run of a schedule says what it comes to there and which levels its hops have offered. With which delay and which
-- jitter it would be accepted is asked where its own setup begins in that run: the least delay whatever the jitter, so that a request whose jitter
-- is controlled is taken to want the largest that may be asked for, and the least jitter with that least delay.
use Rattle.std.specs.Prelude.{◌≡◌, ℕ, Some, List, map, option_map}
use Rattle.std.specs.List.{slice_get}
use Rattle.net_units.specs.Numbers.{channel_number, level_number}
use Rattle.setup_protocol.specs.State.{outcome_of}
use Rattle.call_script.specs.Parts.{PlanParts}
use Rattle.call_script.specs.declared.entries.RequestEntry.{RequestEntry}
use Rattle.call_script.specs.declared.schedule.Do.{Do}
use Rattle.question_plans.specs.Kept.{changed_plan}
use Rattle.plan_answers.specs.Trials.{levels_offered, outcome_in}
use Rattle.plan_answers.specs.declared.least.Least.{Least}
use Rattle.plan_answers.specs.declared.least.Least.TheVariants as least
use Rattle.answer_tables.specs.Rows.{loosened, shortened}
use Rattle.answer_tables.specs.declared.nearest.LeastJitter.{LeastJitter}
use Rattle.answer_tables.specs.declared.nearest.LeastJitter.TheVariants as jitter
use Rattle.answer_tables.specs.declared.rows.RequestRow.{RequestRow}
use Rattle.setup_points.specs.Least.{IsLeastAt}
use Rattle.setup_points.specs.Runs.{run_in}
use Rattle.setup_points.specs.Starts.{setup_start}
use Rattle.setup_points.specs.declared.least.LeastAt.{LeastAt}
use Rattle.setup_points.specs.declared.least.LeastAt.TheVariants as at
use Rattle.setup_points.specs.declared.least.Sought.TheVariants.{Delay, Jitter}
use Rattle.setup_points.specs.declared.row.Could.{Could}
use Rattle.setup_points.specs.declared.run.ScheduledRun.{ScheduledRun}

-- ---- the answers, as those of a row

abbrev pub delay_told : LeastAt → Least
delay_told (at.Ticks ticks) = least.Delay ticks
delay_told (at.Refused verdict) = least.Refused (Some verdict)

abbrev pub jitter_told : LeastAt → LeastJitter
jitter_told (at.Ticks ticks) = jitter.Jitter ticks
jitter_told (at.Refused verdict) = jitter.Refused (Some verdict)

-- it tells the least delay
pub record IsDelayAt (parts : PlanParts) (items : List Do) (start number : ℕ) (told : Least) : Type 0 where
  pub least : LeastAt
  pub is : IsLeastAt parts items (record { start = start; number = number; sought = Delay }) least
  pub told_is : told ≡ delay_told least

-- it tells the least jitter
pub record IsJitterAt (parts : PlanParts) (items : List Do) (start number : ℕ) (told : LeastJitter) : Type 0 where
  pub least : LeastAt
  pub is : IsLeastAt parts items (record { start = start; number = number; sought = Jitter }) least
  pub told_is : told ≡ jitter_told least

-- with these a request would be accepted that is asked after so many steps
pub record CouldHave (parts : PlanParts) (items : List Do) (start number : ℕ) (could : Could) : Type 0 where
  pub least : IsDelayAt (changed_plan (loosened number parts.requests) parts) items start number could.least
  pub jitter : IsJitterAt (changed_plan (shortened number could.least) parts) items start number could.jitter

-- ---- the row

abbrev pub could_of : RequestRow → Could
could_of row = record { least = row.least; jitter = row.jitter }

pub record IsRowAt (parts : PlanParts) (items : List Do) (run : ScheduledRun) (number : ℕ) (row : RequestRow) : Type 0 where
  pub verdict : (entry : RequestEntry) → slice_get parts.requests number ≡ Some entry → option_map outcome_of row.verdict ≡ outcome_in (run_in run) entry.request
  pub offers : (entry : RequestEntry) → slice_get parts.requests number ≡ Some entry → map level_number row.offers.items ≡ levels_offered (run_in run) entry.request
  pub could : (entry : RequestEntry) (start : ℕ) → slice_get parts.requests number ≡ Some entry → setup_start (channel_number entry.request.chan) run.record.entries ≡ Some start → CouldHave parts items start number (could_of row)
