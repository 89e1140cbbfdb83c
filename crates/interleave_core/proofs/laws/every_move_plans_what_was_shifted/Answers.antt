use Rattle.interleave_core.proofs.Moves.MoveSteps.{moves-step}
use Rattle.interleave_core.proofs.laws.every_move_plans_what_was_shifted.Goals as goal

pub returns : goal.returns
returns c = moves-step
