-- The hop that offers is the first one without an offer.
use Rattle.std.proofs.Common.{◌+◌, ◌++◌, ◌∷◌, [], ap, sym, ◌∙◌, arith}
use Rattle.net_units.specs.Numbers.{level_number}
use Rattle.net_units.specs.Allotted.{levels_of}
use Rattle.hop_reservation.specs.Offers.{offered, next_levels, next_bound, IsLevelOf}
use Rattle.hop_reservation.proofs.OneMoreOffer.{found-next, next_levels-at, next_bound-at, offers-push}
use Rattle.hop_reservation.proofs.itinerary.Itinerary.push_offer.Goals as goal

pub at-requires : goal.at-requires
at-requires c =
    let found = found-next c.self.inside.route (levels_of c.self.inside.levels) c.len.result c.hop-hop.result c.len.ensures.value c.hop-hop.ensures.value in
    let count = next_levels-at c.self.inside.route (levels_of c.self.inside.levels) c.hop-hop.result found in
    let seen = ap (λ o. next_levels o.route o.levels) c.self.view_is in
    omega (arith, c.requires.level, count, seen)

pub overflow_add-self-2 : goal.overflow_add-self-2
overflow_add-self-2 c = omega (arith, c.self.invariant.delay_most, c.len.ensures.value, c.len.ensures.most, c.at.ensures.most, c.from.ensures, c.from-2.ensures)

pub at-self-inside-requires : goal.at-self-inside-requires
at-self-inside-requires c =
    let found = found-next c.self.inside.route (levels_of c.self.inside.levels) c.len.result c.hop-hop.result c.len.ensures.value c.hop-hop.ensures.value in
    let count = next_levels-at c.self.inside.route (levels_of c.self.inside.levels) c.hop-hop.result found in
    let seen = ap (λ o. next_levels o.route o.levels) c.self.view_is in
    omega (arith, c.requires.reach, count, seen)

pub invariant_of-self : goal.invariant_of-self
invariant_of-self c =
    let found = found-next c.self.inside.route (levels_of c.self.inside.levels) c.len.result c.hop-hop.result c.len.ensures.value c.hop-hop.ensures.value in
    let count = next_levels-at c.self.inside.route (levels_of c.self.inside.levels) c.hop-hop.result found in
    let seen = ap (λ o. next_levels o.route o.levels) c.self.view_is in
    let is : IsLevelOf c.hop-hop.result (level_number c.args.level) = record { least = c.args.level.least; most = omega (arith, c.requires.level, count, seen) } in
    rw c.push.ensures
    (offers-push c.self.inside.route (levels_of c.self.inside.levels) c.hop-hop.result (level_number c.args.level) c.self.inside.reach c.at-self-inside.result c.self.inside.delay (c.from.result + c.from-2.result) found c.self.invariant is c.at-self-inside.ensures.most
    (omega (arith, c.from.ensures, c.from-2.ensures, c.at.ensures.value))
    (omega (arith, c.from.ensures, c.from-2.ensures, c.at.ensures.most)))

pub returns : goal.returns
returns c =
    let found = found-next c.self.inside.route (levels_of c.self.inside.levels) c.len.result c.hop-hop.result c.len.ensures.value c.hop-hop.ensures.value in
    let bound = c.at-self-inside.ensures.value ∙ sym (next_bound-at c.self.inside.route (levels_of c.self.inside.levels) c.hop-hop.result (level_number c.args.reach) found) in
    ap (λ levels. offered c.self.inside.route levels c.at-self-inside.result) c.push.ensures
    ∙ ap (λ reach. offered c.self.inside.route (levels_of c.self.inside.levels ++ level_number c.args.level ∷ []) reach) bound
    ∙ ap (λ o. offered o.route (o.levels ++ level_number c.args.level ∷ []) (next_bound o.route o.levels (level_number c.args.reach))) c.self.view_is
