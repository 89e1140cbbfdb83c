use Rattle.report_laws.proofs.CountsOfEntries.{sends-told}
use Rattle.report_laws.proofs.laws.reports_show_refused_sends.Goals as goal

pub returns : goal.returns
returns c = sends-told
