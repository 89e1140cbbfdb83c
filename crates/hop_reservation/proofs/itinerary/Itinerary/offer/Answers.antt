use Rattle.std.proofs.Common.{◌-◌, length, subst, sym, ap, arith}
use Rattle.net_units.specs.Allotted.{levels_of}
use Rattle.hop_reservation.specs.Offers.{IsLevelOf}
use Rattle.hop_reservation.proofs.OneMoreOffer.{levels-fit, AreLevels-at}
use Rattle.hop_reservation.proofs.itinerary.Itinerary.offer.Goals as goal

pub hop-requires-clause-last : goal.hop-requires-clause-last
hop-requires-clause-last c =
    omega (arith, c.requires.last, levels-fit c.self.inside.route (levels_of c.self.inside.levels) c.self.invariant.are_levels, ap (λ o. length o.levels) c.self.view_is)

pub returns-clause-within : goal.returns-clause-within
returns-clause-within c =
    subst (IsLevelOf c.hop.result) (sym c.at.ensures)
    (AreLevels-at c.self.inside.route (levels_of c.self.inside.levels) (c.args.place - 1) c.hop.result c.self.invariant.are_levels c.hop.ensures.value (omega (arith, c.requires.first, c.requires.last, ap (λ o. length o.levels) c.self.view_is)))
