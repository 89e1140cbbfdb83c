use Rattle.interleave_core.proofs.Moves.MoveTotal.{none-lost-in-moves}
use Rattle.interleave_core.proofs.laws.a_move_leaves_no_packet_behind.Goals as goal

pub returns : goal.returns
returns c = none-lost-in-moves
