use Rattle.run_engine.proofs.Runs.RunLegal.{asked-fits}
use Rattle.interleave_core.proofs.laws.every_ask_fits.Goals as goal

pub returns : goal.returns
returns c = asked-fits
