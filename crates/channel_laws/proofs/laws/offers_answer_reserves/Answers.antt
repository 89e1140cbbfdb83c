use Rattle.channel_laws.proofs.OfferAnswers.{offer-answers}
use Rattle.channel_laws.proofs.laws.offers_answer_reserves.Goals as goal

pub returns : goal.returns
returns c = offer-answers
