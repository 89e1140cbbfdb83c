-- A schedule that was played while a tally saw its run.
use Rattle.std.specs.Prelude.{List}
use Rattle.call_script.specs.Parts.{PlanParts}
use Rattle.call_script.specs.Tasks.{network_of}
use Rattle.call_script.specs.declared.schedule.Schedule.{Schedule}
use Rattle.channel_report.specs.Tallied.{IsTalliedRun}
use Rattle.channel_report.specs.declared.tally.Tally.{Tally}
use Rattle.run_engine.specs.schedules.Schedules.{IsPlayed}
use Rattle.interleave_core.specs.channels.Laws.{IsGuaranteedRun}
use Rattle.run_engine.specs.declared.callers.Callers.{Callers}
use Rattle.run_record.specs.declared.done.Done.{Done}

-- the callers and the tally after the schedule's run, which has the whole guarantee
pub record IsTalliedPlay (parts : PlanParts) (schedule : Schedule) (callers : Callers) (tally : Tally) : Type 0 where
  pub run : List Done
  pub played : IsPlayed (network_of parts) schedule run
  pub guaranteed : IsGuaranteedRun parts run
  pub tallied : IsTalliedRun parts callers tally run
