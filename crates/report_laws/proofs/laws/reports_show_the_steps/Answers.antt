use Rattle.report_laws.proofs.CountsOfEntries.{steps-told}
use Rattle.report_laws.proofs.laws.reports_show_the_steps.Goals as goal

pub returns : goal.returns
returns c = steps-told
