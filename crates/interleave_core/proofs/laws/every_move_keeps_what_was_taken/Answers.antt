use Rattle.interleave_core.proofs.Moves.MoveLaw.{moves-keep}
use Rattle.interleave_core.proofs.laws.every_move_keeps_what_was_taken.Goals as goal

pub returns : goal.returns
returns c = moves-keep
