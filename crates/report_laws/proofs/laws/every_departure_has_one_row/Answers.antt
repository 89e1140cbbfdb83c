use Rattle.report_laws.proofs.RowCount.{one-row}
use Rattle.report_laws.proofs.laws.every_departure_has_one_row.Goals as goal

pub returns : goal.returns
returns c = one-row
