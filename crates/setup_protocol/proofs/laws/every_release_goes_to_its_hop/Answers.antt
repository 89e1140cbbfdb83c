use Rattle.setup_protocol.proofs.RelaxesFit.{release-at}
use Rattle.setup_protocol.proofs.laws.every_release_goes_to_its_hop.Goals as goal

pub returns : goal.returns
returns c = release-at
