-- What is read off the table is the least walk; where there is nothing to read, there is no walk.
use Rattle.std.proofs.Common.{◌≡◌, ◌≢◌, ℕ, ◌<◌, ◌≤◌, Option, Some, None, List, [], ◌∷◌, length, ◌⊎◌, inl, inr, sym, refl, ◌∙◌, arith}
use Rattle.std.proofs.lemmas.Option.{same_Some}
use Rattle.route_finder.specs.declared.edge.Edge.{Edge}
use Rattle.route_finder.specs.Laws.{IsLeastOrNone, FindsLeastWalk}
use Rattle.route_finder.specs.Table.{least_prop}
use Rattle.route_finder.specs.Trace.{fewest, traced_from, walk_by}
use Rattle.route_finder.specs.Walks.{prop_over, IsNetwork, Leads, IsWay, IsWalk, ComesFirst, IsLeastWalk}
use Rattle.route_finder.proofs.LeastPropagations.{least_prop-within}
use Rattle.route_finder.proofs.TracedWalk.{IsTraced, IsExact, IsFewest, fewest-is, exact-fewest, traced-is, way-fewer}

-- a way between two nodes has a link
pub way-some : (edges : List Edge) (to most node : ℕ) (walk : List Edge) → IsWay edges to most node walk → node ≢ to → 1 ≤ length walk
unfolding Leads
way-some edges to most node [] way apart = absurd (apart way.leads)
way-some edges to most node (step ∷ walk) way apart = omega arith

-- by the fewest links of all with the least propagation
traced-first : (edges : List Edge) (from to links prop : ℕ) (walk : List Edge) → least_prop edges to 16 from ≡ Some prop
    → IsFewest (λ links. least_prop edges to links from) 16 links → IsExact edges to links from prop
    → IsTraced edges to links from prop walk → (other : List Edge) → IsWalk edges from to other → ComesFirst walk other
traced-first edges from to links prop walk is fewest exact traced other is_walk =
    let within = least_prop-within edges to 16 from other is_walk.way in
    let least : prop ≡ within.value = same_Some prop within.value (sym is ∙ within.is) in
    elim (cases-at-most (prop_over walk) (prop_over other) (omega (arith, least, within.less, traced.is_prop))) [
      | inl less ↦ inl less
      | inr same ↦ elim (cases-lt links (length other)) [
        | inl less ↦ inr (same, inl (omega (arith, traced.count, less)))
        | inr few ↦
            let way = way-fewer edges to 16 links from other is_walk.way few in
            let sum : prop_over other ≡ prop = sym same ∙ traced.is_prop in
            inr (same, inr (traced.count ∙ sym (exact.each other way sum), traced.first other way sum))
      ]
    ] where
      cases-at-most : (a b : ℕ) → a ≤ b → (a < b) ⊎ (a ≡ b)
      cases-at-most a b less = grind arith

      cases-lt : (a b : ℕ) → (a < b) ⊎ (b ≤ a)
      cases-lt a b = grind arith

pub traced-least : (edges : List Edge) (from to prop : ℕ) → IsNetwork edges → from ≢ to → least_prop edges to 16 from ≡ Some prop
    → IsLeastWalk edges from to (traced_from (least_prop edges to) edges from)
traced-least edges from to prop network apart is =
    let few = fewest-is (λ links. least_prop edges to links from) 16 in
    let links = fewest (λ links. least_prop edges to links from) 16 in
    let here : least_prop edges to links from ≡ Some prop = few.same ∙ is in
    let exact = exact-fewest edges to from 16 links prop few here in
    let walk = traced-is edges to links from prop network here exact in
    let way = walk.is_way in
    record {
      is_walk = record { way = record { among = way.among; leads = way.leads; few = omega (arith, way.few, few.less) }; some = way-some edges to links from _ way apart };
      first = traced-first edges from to links prop _ is few exact walk;
    }

-- and it has the propagation of the table
pub traced-prop : (edges : List Edge) (from to prop : ℕ) → IsNetwork edges → least_prop edges to 16 from ≡ Some prop
    → prop_over (traced_from (least_prop edges to) edges from) ≡ prop
traced-prop edges from to prop network is =
    let few = fewest-is (λ links. least_prop edges to links from) 16 in
    let links = fewest (λ links. least_prop edges to links from) 16 in
    let here : least_prop edges to links from ≡ Some prop = few.same ∙ is in
    (traced-is edges to links from prop network here (exact-fewest edges to from 16 links prop few here)).is_prop

-- what is found, or not found
pub finds-least-walk : FindsLeastWalk
finds-least-walk edges from to network apart = by edges from to (least_prop edges to 16 from) refl network apart where
  by : (edges : List Edge) (from to : ℕ) (found : Option ℕ) → least_prop edges to 16 from ≡ found → IsNetwork edges → from ≢ to
      → IsLeastOrNone edges from to (walk_by edges from to found)
  by edges from to None is network apart = λ walk is_walk. (let within = least_prop-within edges to 16 from walk is_walk.way in let clash : None ≡ Some within.value = sym is ∙ within.is in cc)
  by edges from to (Some prop) is network apart = traced-least edges from to prop network apart is
