use Rattle.report_laws.proofs.RowPacket.{rows-tell}
use Rattle.report_laws.proofs.laws.rows_show_departures.Goals as goal

pub returns : goal.returns
returns c = rows-tell
