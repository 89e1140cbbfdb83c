use Rattle.link_steps.proofs.SlotsHeld.{slots-held}
use Rattle.link_steps.proofs.row_laws.packets_fit_their_slots.Goals as goal

pub returns : goal.returns
returns c = slots-held
