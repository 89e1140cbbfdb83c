use Rattle.std.proofs.Common.{length, ap, arith}
use Rattle.net_units.specs.Allotted.{levels_of}
use Rattle.hop_reservation.proofs.OneMoreOffer.{levels-fit}
use Rattle.hop_reservation.proofs.itinerary.Itinerary.offers.Goals as goal

pub returns-clause-in_route : goal.returns-clause-in_route
returns-clause-in_route c =
    omega (arith, c.len.ensures.value, levels-fit c.self.inside.route (levels_of c.self.inside.levels) c.self.invariant.are_levels, ap (λ o. length o.route) c.self.view_is)
