use Rattle.std.proofs.Common.{◌≡◌, ℕ, List, [], ◌∷◌, ◌++◌, length, map, rules, sym, ap, ◌∙◌, subst, arith}
use Rattle.shared_network.proofs.Words.{map-append, same_from_all_zip, into_iter_items, link_number, Each, Link, seat_link}
use Rattle.shared_network.specs.Sight.{IsUnusedLink}
use Rattle.shared_network.proofs.Numbering.NumbersFromZero.{none-left}
use Rattle.shared_network.proofs.NetworkOpened.{Locking, locking-start, locking-left, locking-link, locking-next, locking-end}
use Rattle.shared_network.proofs.network.lock_all.Goals as goal

pub loop-link-init : goal.loop-link-init
loop-link-init g c = record {
  locking = subst (λ made. Locking g.H.Home.links made (map seat_link (into_iter_items c.into_iter-seats.result)) (map g.L.LinkStep.link_of (into_iter_items c.into_iter-link-iterator.result))) (sym (ap (map (λ x. link_number x.link)) c.in_ok-locked.ensures.items))
      (locking-start g.H.Home.links _ _ (ap (map g.L.LinkStep.link_of) c.into_iter-link-iterator.ensures.into_iter_gives.0 ∙ c.requires.links) (ap (map seat_link) c.into_iter-seats.ensures.rest ∙ c.requires.numbers));
  unused = subst (Each (IsUnusedLink g.H.Home.table)) (sym c.into_iter-seats.ensures.rest) c.requires.unused;
  stand = subst (Each (λ link. g.L.LinkStep.stands_for link [])) (sym c.into_iter-link-iterator.ensures.into_iter_gives.0) c.requires.stand;
}

pub unreachable-requires : goal.unreachable-requires
unreachable-requires g c =
    let left = locking-left g.H.Home.links _ _ _ c.loop-link.invariant.locking in
    let links = ap (λ xs. length (map g.L.LinkStep.link_of xs)) c.in-Some.ensures.steps.0 in
    let seats = ap (λ xs. length (map seat_link xs)) (none-left c.loop-link.seats c.in_default.ensures.cases.0) in
    omega (arith, left, links, seats)

pub open-requires-clause-rules : goal.open-requires-clause-rules
open-requires-clause-rules g c κs within =
    locking-link g.H.Home.links (map (λ x. link_number x.link) c.loop-link.locked.items) _ _ (seat_link c.in-Some-next.seat) (g.L.LinkStep.link_of c.in-Some.link)
    (subst (λ (x : List ℕ × List Link). Locking g.H.Home.links (map (λ x. link_number x.link) c.loop-link.locked.items) x.0 x.1) (λ i. (map seat_link (c.in-Some-next.ensures.items i), map g.L.LinkStep.link_of (c.in-Some.ensures.steps.0 i))) c.loop-link.invariant.locking)

pub open-requires-clause-owners : goal.open-requires-clause-owners
open-requires-clause-owners g c κs within = search (rules, same_from_all_zip)

pub loop-link-preserved : goal.loop-link-preserved
loop-link-preserved g c =
    let made : List ℕ = map (λ x. link_number x.link) c.loop-link.locked.items in
    let next =
    locking-next g.H.Home.links made _ _ (seat_link c.in-Some-next.seat) (g.L.LinkStep.link_of c.in-Some.link)
    (subst (λ (x : List ℕ × List Link). Locking g.H.Home.links made x.0 x.1) (λ i. (map seat_link (c.in-Some-next.ensures.items i), map g.L.LinkStep.link_of (c.in-Some.ensures.steps.0 i))) c.loop-link.invariant.locking) in
    let pushed : map (λ x. link_number x.link) c.push.new.self.items ≡ made ++ seat_link c.in-Some-next.seat ∷ [] =
    ap (map (λ x. link_number x.link)) c.in_ok-push.ensures.items ∙ map-append (λ x. link_number x.link) c.loop-link.locked.items (c.in_ok-open.field-0 ∷ []) ∙ ap (λ n. made ++ link_number n ∷ []) c.in_ok-open.ensures.link in
    record {
      locking = subst (λ ns. Locking g.H.Home.links ns (map seat_link (into_iter_items c.next-in-loop-link.new.self)) (map g.L.LinkStep.link_of (into_iter_items c.next.new.self))) (sym pushed) next;
      unused = (subst (Each (IsUnusedLink g.H.Home.table)) c.in-Some-next.ensures.items c.loop-link.invariant.unused).1;
      stand = (subst (Each (λ link. g.L.LinkStep.stands_for link [])) c.in-Some.ensures.steps.0 c.loop-link.invariant.stand).1;
    }

pub returns : goal.returns
returns g c = record { numbers = locking-end g.H.Home.links _ _ _ c.loop-link.invariant.locking (ap (map g.L.LinkStep.link_of) (none-left c.loop-link.link-iterator c.in-None.ensures.steps.0)) }
