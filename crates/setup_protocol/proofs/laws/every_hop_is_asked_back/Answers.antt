use Rattle.setup_protocol.proofs.AskedOnceMore.{hops-asked_back}
use Rattle.setup_protocol.proofs.laws.every_hop_is_asked_back.Goals as goal

pub returns : goal.returns
returns c = hops-asked_back
