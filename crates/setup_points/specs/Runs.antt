-- A run of a plan by a schedule is kept as its callers after it and its record.
use Rattle.std.specs.Prelude.{List, reverse}
use Rattle.call_script.specs.Parts.{PlanParts}
use Rattle.call_script.specs.Tasks.{network_of}
use Rattle.run_engine.specs.runs.Runs.{IsRun}
use Rattle.run_engine.specs.schedules.Standing.{CallersStand}
use Rattle.run_record.specs.declared.done.Done.{Done}
use Rattle.setup_points.specs.declared.run.ScheduledRun.{ScheduledRun}

-- the run that it has recorded, newest first
abbrev pub run_in : ScheduledRun → List Done
run_in run = reverse run.record.entries

-- it is one of the plan's, and its callers stand for it
pub record IsRunFor (parts : PlanParts) (kept : ScheduledRun) : Type 0 where
  pub run : IsRun (network_of parts) (run_in kept)
  pub stand : CallersStand parts kept.callers (run_in kept)
