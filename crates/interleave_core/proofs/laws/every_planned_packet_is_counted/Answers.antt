use Rattle.interleave_core.proofs.Moves.Given.{planned-told}
use Rattle.interleave_core.proofs.laws.every_planned_packet_is_counted.Goals as goal

pub returns : goal.returns
returns c = planned-told
