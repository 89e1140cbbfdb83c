use Rattle.interleave_core.proofs.Moves.TotalLaw.{none-lost}
use Rattle.interleave_core.proofs.laws.planned_packets_are_offered_left_or_cancelled.Goals as goal

pub returns : goal.returns
returns c = none-lost
