use Rattle.report_laws.proofs.DelaysOfRows.{delays-of-rows}
use Rattle.report_laws.proofs.laws.reports_tell_the_delays_of_rows.Goals as goal

pub returns : goal.returns
returns c = delays-of-rows
