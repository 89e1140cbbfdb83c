-- What has no fault is a route, and a route has none.
use Rattle.std.proofs.Common.{◌≡◌, true, false, Some, None, subst, sym, refl, ◌∙◌}
use Rattle.hop_reservation.specs.Routes.{IsRoute, fault_in}
use Rattle.hop_reservation.proofs.DistinctLinks.{route-from_none, none-from_route, fault-is_repeated, is-filled, take-filled}
use Rattle.hop_reservation.proofs.route.Route.new.Goals as goal

pub invariant_of-result : goal.invariant_of-result
invariant_of-result c =
    let none = fault-is_repeated c.args.hops.now c.in-len1-up.len_at_least c.if-hops.false ∙ sym c.repeated.ensures ∙ c.in-None.is in
    rw c.with_first.ensures (subst IsRoute (sym (take-filled c.args.hops.now)) (route-from_none c.args.hops.now none), is-filled c.args.hops.now)

pub returns-in-Some-clause-found : goal.returns-in-Some-clause-found
returns-in-Some-clause-found c =
    let some : fault_in c.args.hops.now ≡ Some c.in-Some.place = fault-is_repeated c.args.hops.now c.in-len1-up.len_at_least c.if-hops.false ∙ sym c.repeated.ensures ∙ c.in-Some.is in
    (λ no. absurd (let clash : false ≡ true = no in cc), λ is. absurd (let clash : Some c.in-Some.place ≡ None = sym some ∙ none-from_route c.args.hops.now is in cc))

pub returns-in-None-clause-found : goal.returns-in-None-clause-found
returns-in-None-clause-found c =
    let none = fault-is_repeated c.args.hops.now c.in-len1-up.len_at_least c.if-hops.false ∙ sym c.repeated.ensures ∙ c.in-None.is in
    (λ yes. route-from_none c.args.hops.now none, λ is. refl)
