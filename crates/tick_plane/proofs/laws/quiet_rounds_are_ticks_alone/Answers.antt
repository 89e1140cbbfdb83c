use Rattle.tick_plane.proofs.QuietRounds.{quiet-rounds}
use Rattle.tick_plane.proofs.laws.quiet_rounds_are_ticks_alone.Goals as goal

pub returns : goal.returns
returns c = quiet-rounds
