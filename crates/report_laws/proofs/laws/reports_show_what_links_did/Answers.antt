use Rattle.report_laws.proofs.CountsOfEntries.{links-told}
use Rattle.report_laws.proofs.laws.reports_show_what_links_did.Goals as goal

pub returns : goal.returns
returns c = links-told
