-- The hop that is to reserve is the first one without an offer.
use Rattle.std.proofs.Common.{◌≡◌, leb, ap, sym, ◌∙◌, arith}
use Rattle.std.proofs.lemmas.Bool.{le-leb, lt-leb}
use Rattle.hop_reservation.specs.Offers.{next_levels}
use Rattle.hop_reservation.proofs.OneMoreOffer.{found-next, next_levels-at}
use Rattle.setup_protocol.proofs.setup.Setup.has_levels.Goals as goal

pub returns-then-get-levels : goal.returns-then-get-levels
returns-then-get-levels c =
    let route = c.args.self.now.request.route in
    let levels = c.args.self.now.itinerary.levels in
    let count : c.len-levels.result ≡ next_levels route levels = c.len-levels.ensures.value ∙ sym (next_levels-at route levels c.hop-hop.result (found-next route levels c.offers.result c.hop-hop.result c.offers.ensures.value c.hop-hop.ensures.value)) in
    rw (le-leb c.args.level.number (next_levels route levels) (omega (arith, count, c.get.ensures.value, c.if-get-levels.true)))
    (ap (λ n. leb n c.len-levels.result) c.get-then-get-levels.ensures.value ∙ ap (leb c.args.reach.number) count)

pub returns-else-get-levels : goal.returns-else-get-levels
returns-else-get-levels c =
    let route = c.args.self.now.request.route in
    let levels = c.args.self.now.itinerary.levels in
    let count : c.len-levels.result ≡ next_levels route levels = c.len-levels.ensures.value ∙ sym (next_levels-at route levels c.hop-hop.result (found-next route levels c.offers.result c.hop-hop.result c.offers.ensures.value c.hop-hop.ensures.value)) in
    rw (lt-leb c.args.level.number (next_levels route levels) (omega (arith, count, c.get.ensures.value, c.if-get-levels.false)))
    (lt-leb c.get.result c.len-levels.result c.if-get-levels.false)
