use Rattle.channel_report.proofs.LaggingTallies.{may-lag}
use Rattle.channel_report.proofs.tally.TallyWatch.may_lag.Goals as goal

pub returns : goal.returns
returns c = λ is. may-lag
