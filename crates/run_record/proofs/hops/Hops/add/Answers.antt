use Rattle.std.proofs.Common.{◌≡◌, ◌∙◌, get_or}
use Rattle.net_units.specs.Numbers.{link_number}
use Rattle.run_record.proofs.OfferPlaces.{offered-new, offered-kept}
use Rattle.run_record.proofs.hops.Hops.add.Goals as goal

pub returns-then-self-place-eq0 : goal.returns-then-self-place-eq0
returns-then-self-place-eq0 c = λ links are.
    let is : c.from-place.result ≡ link_number c.args.link = c.from-place.ensures ∙ c.get.ensures.value in
    let none : get_or c.args.self.now.places (link_number c.args.link) 0 ≡ 0 = rw (← is) c.if-self-place-eq0.true in
    rw is (offered-new links c.args.self.now.places c.args.self.now.offers c.saturating_add-self.result (link_number c.args.link) are c.args.link.small none c.saturating_add-self.ensures)

pub returns-else-self-place-eq0 : goal.returns-else-self-place-eq0
returns-else-self-place-eq0 c = λ links are.
    let is : c.from-place.result ≡ link_number c.args.link = c.from-place.ensures ∙ c.get.ensures.value in
    offered-kept links c.args.self.now.places c.args.self.now.offers c.saturating_add-self.result (link_number c.args.link) are c.args.link.small (λ none. c.if-self-place-eq0.false (rw is none)) c.saturating_add-self.ensures
