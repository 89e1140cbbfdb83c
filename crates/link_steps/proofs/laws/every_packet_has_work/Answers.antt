use Rattle.link_steps.proofs.WindowFits.{packets-have_work}
use Rattle.link_steps.proofs.laws.every_packet_has_work.Goals as goal

pub returns : goal.returns
returns c = packets-have_work
