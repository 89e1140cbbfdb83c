use Rattle.report_laws.proofs.ReportBounds.{bounds-kept}
use Rattle.report_laws.proofs.laws.reports_keep_their_bounds.Goals as goal

pub returns : goal.returns
returns c = bounds-kept
