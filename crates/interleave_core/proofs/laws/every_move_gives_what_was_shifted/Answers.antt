use Rattle.interleave_core.proofs.Moves.Given.{moves-give}
use Rattle.interleave_core.proofs.laws.every_move_gives_what_was_shifted.Goals as goal

pub returns : goal.returns
returns c = moves-give
