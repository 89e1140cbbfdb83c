use Rattle.hop_reservation.proofs.OneMoreOffer.{none-offered}
use Rattle.hop_reservation.proofs.itinerary.Itinerary.new.Goals as goal

pub invariant_of-result : goal.invariant_of-result
invariant_of-result c = rw c.new.ensures (none-offered c.args.route c.len-hops.ensures.valid)
