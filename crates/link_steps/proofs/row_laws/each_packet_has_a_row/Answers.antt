use Rattle.link_steps.proofs.PacketRows.{packets-have_rows}
use Rattle.link_steps.proofs.row_laws.each_packet_has_a_row.Goals as goal

pub returns : goal.returns
returns c = packets-have_rows
