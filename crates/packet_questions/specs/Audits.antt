-- A table of measured packets is judged by what the channels of a network were promised in its run by its schedule. The faults that are shown
-- are exactly those that an audit (packet_audit) finds of its rows. Of a table that can't be read nothing is said.
use Rattle.std.specs.Prelude.{◌≡◌, ℕ, List, map}
use Rattle.call_script.specs.Parts.{PlanParts}
use Rattle.call_script.specs.Tasks.{network_of}
use Rattle.call_script.specs.declared.schedule.Schedule.{Schedule}
use Rattle.run_engine.specs.schedules.Schedules.{IsPlayed}
use Rattle.run_record.specs.declared.done.Done.{Done}
use Rattle.packet_audit.specs.Promises.{found_in}
use Rattle.packet_audit.specs.declared.rows.Promise.{Promise}
use Rattle.packet_audit.specs.declared.rows.Row.{Row}
use Rattle.packet_answers.specs.PromisesOfRuns.{promises_in, widened_by}
use Rattle.packet_answers.specs.declared.judging.Judged.{Judged}
use Rattle.packet_questions.specs.declared.audit.Audit.{Audit}
use Rattle.packet_questions.specs.declared.audit.Audit.TheVariants.{Read, Bad}

-- by these promises, where two delays may differ by some ticks more
pub record AreJudgedBy (promises : List Promise) (more : ℕ) (rows : List Row) (judged : Judged) : Type 0 where
  pub wide : judged.promises.items ≡ map (widened_by more) promises
  pub finds : judged.found.items ≡ found_in (map (widened_by more) promises) rows

abbrev pub IsJudgedBy : List Promise → Audit → Type 0
IsJudgedBy promises (Read rows rounding judged answer) = AreJudgedBy promises rounding rows.items judged
IsJudgedBy promises (Bad lines more) = Unit {0}

-- by what was promised in the run of the plan by the schedule
pub record IsAuditOf (parts : PlanParts) (schedule : Schedule) (audit : Audit) : Type 0 where
  pub run : List Done
  pub played : IsPlayed (network_of parts) schedule run
  pub judges : IsJudgedBy (promises_in parts.requests run) audit
