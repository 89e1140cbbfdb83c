use Rattle.setup_protocol.proofs.RelaxesFit.{relax-fit}
use Rattle.setup_protocol.proofs.laws.every_relax_is_fit.Goals as goal

pub returns : goal.returns
returns c = relax-fit
