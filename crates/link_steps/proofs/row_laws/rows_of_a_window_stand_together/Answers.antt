use Rattle.link_steps.proofs.TogetherHeld.{stand-together}
use Rattle.link_steps.proofs.row_laws.rows_of_a_window_stand_together.Goals as goal

pub returns : goal.returns
returns c = stand-together
