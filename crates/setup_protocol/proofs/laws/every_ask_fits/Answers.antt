use Rattle.setup_protocol.proofs.SetupAsksFit.{ask-fits}
use Rattle.setup_protocol.proofs.laws.every_ask_fits.Goals as goal

pub returns : goal.returns
returns c = ask-fits
