use Rattle.link_steps.proofs.BusyPeriods.{busy_period-ends}
use Rattle.link_steps.proofs.laws.busy_period_ends.Goals as goal

pub returns : goal.returns
returns c = busy_period-ends
