use Rattle.run_engine.proofs.Schedules.ScheduleOutcome.{one-end}
use Rattle.interleave_core.proofs.laws.schedules_come_to_one_end.Goals as goal

pub returns : goal.returns
returns c = one-end
