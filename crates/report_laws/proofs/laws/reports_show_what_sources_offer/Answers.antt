use Rattle.report_laws.proofs.OfferedTicks.{offers-told}
use Rattle.report_laws.proofs.laws.reports_show_what_sources_offer.Goals as goal

pub returns : goal.returns
returns c = offers-told
