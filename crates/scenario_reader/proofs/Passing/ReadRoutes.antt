-- A request that is read between two nodes gets the least route from the one to the other.
use Rattle.std.proofs.Common.{ℕ, ◌≤◌, Option, Some, None, List, [], ◌∷◌, length, sym, ◌∙◌, subst}
use Rattle.std.proofs.lemmas.Bool.{true≢false}
use Rattle.hop_reservation.specs.declared.route.Hop.{Hop}
use Rattle.link_steps.specs.Lists.{Each}
use Rattle.call_script.specs.Plans.{HasTerms}
use Rattle.call_script.specs.declared.entries.LinkEntry.{LinkEntry}
use Rattle.call_script.specs.declared.entries.RequestEntry.{RequestEntry}
use Rattle.call_script.proofs.PlansFit.{links-few}
use Rattle.scenario_reader.specs.BothWays.{IsFoundRoute}
use Rattle.scenario_reader.specs.FoundRoutes.{IsLeastRoute}
use Rattle.scenario_reader.specs.Nodes.{LinksAreNumbered}
use Rattle.scenario_reader.specs.ReadPlans.{GoesByLeastWalk, RequestsGetTheLeastRoutes}
use Rattle.scenario_reader.proofs.Finding.FoundNodes.{found-nodes}
use Rattle.scenario_reader.proofs.Finding.LeastRoutes.{finds-least-routes}
use Rattle.scenario_reader.proofs.Finding.NodesByNumber.{named-equal}
use Rattle.scenario_reader.proofs.Passing.ReadNames.{what-is-readable}

least-route : (links : List LinkEntry) (route : List Hop) (found : Option (List ℕ × List ℕ)) → LinksAreNumbered links → length links ≤ 32 → 1 ≤ length route → IsFoundRoute links route found → GoesByLeastWalk links route found
least-route links route None numbered few some is = tt
least-route links route (Some (from, to)) numbered few some is =
    let ends = found-nodes links from to route numbered few some is in
    subst (IsLeastRoute links from to) is (finds-least-routes links from to numbered few (record {
      from_node = ends.first;
      to_node = ends.second;
      apart = λ same. true≢false (sym (named-equal to from same) ∙ ends.apart);
    }))

least-routes : (links : List LinkEntry) (requests : List RequestEntry) → LinksAreNumbered links → length links ≤ 32 → Each HasTerms requests → Each (λ (entry : RequestEntry). IsFoundRoute links entry.request.route entry.found) requests
    → Each (λ (entry : RequestEntry). GoesByLeastWalk links entry.request.route entry.found) requests
least-routes links [] numbered few terms found = tt
least-routes links (entry ∷ requests) numbered few terms found =
    (least-route links entry.request.route entry.found numbered few terms.0.route.least found.0, least-routes links requests numbered few terms.1 found.1)

pub requests-get_least_routes : RequestsGetTheLeastRoutes
requests-get_least_routes most bytes parts schedule e =
    let is = what-is-readable most bytes parts schedule e in
    least-routes parts.links parts.requests (record { number = is.plan.planned.links }) (links-few parts is.plan) is.plan.terms is.found
