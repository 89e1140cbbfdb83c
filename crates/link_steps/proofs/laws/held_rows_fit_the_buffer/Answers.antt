use Rattle.link_steps.proofs.UnitsHeld.{units-held}
use Rattle.link_steps.proofs.laws.held_rows_fit_the_buffer.Goals as goal

pub returns : goal.returns
returns c = units-held
