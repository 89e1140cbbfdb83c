use Rattle.link_steps.proofs.NewPackets.{packets-numbered}
use Rattle.link_steps.proofs.row_laws.packets_are_numbered.Goals as goal

pub returns : goal.returns
returns c = packets-numbered
