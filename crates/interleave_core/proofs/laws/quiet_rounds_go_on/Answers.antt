use Rattle.run_engine.proofs.Watched.QuietRounds.{quiet-rounds}
use Rattle.interleave_core.proofs.laws.quiet_rounds_go_on.Goals as goal

pub returns : goal.returns
returns c = quiet-rounds
