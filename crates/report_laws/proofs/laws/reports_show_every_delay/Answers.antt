use Rattle.report_laws.proofs.EveryDelay.{every-delay}
use Rattle.report_laws.proofs.laws.reports_show_every_delay.Goals as goal

pub returns : goal.returns
returns c = every-delay
