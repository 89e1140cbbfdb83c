use Rattle.interleave_core.proofs.Moves.LastPackets.{moves-take-last}
use Rattle.interleave_core.proofs.laws.every_move_takes_the_last_packets.Goals as goal

pub returns : goal.returns
returns c = moves-take-last
