use Rattle.setup_protocol.proofs.SettledRequest.{offers-asked_back}
use Rattle.setup_protocol.proofs.laws.every_offer_is_asked_back.Goals as goal

pub returns : goal.returns
returns c = offers-asked_back
