-- The hop that refuses is a place of the route, and its refusal is one of a reserve.
use Rattle.std.proofs.Common.{◌≡◌, true, subst, arith}
use Rattle.hop_reservation.specs.Offers.{next_levels}
use Rattle.setup_protocol.specs.Setup.{answers_reserve}
use Rattle.setup_protocol.proofs.setup.Setup.take_reserved.Goals as goal

pub invariant_of-self-in-Refused : goal.invariant_of-self-in-Refused
invariant_of-self-in-Refused c =
    let route = c.args.self.now.request.route in
    let levels = c.args.self.now.itinerary.levels in
    record {
      same_route = c.args.self.now.same_route;
      in_range = c.undo-self.ensures.range route levels (omega (arith, c.offers-before.ensures.value, c.requires.left))
          (record { least = omega arith; most = omega (arith, c.offers-before.ensures.value, c.requires.left) }, subst (λ reply. answers_reserve (next_levels route levels) reply ≡ true) c.in-Refused.is c.requires.expected);
    }
