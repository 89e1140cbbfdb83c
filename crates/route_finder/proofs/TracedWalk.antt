-- What is traced along the table is the first of the ways that have the least propagation and as few links as it needs.
use Rattle.std.proofs.Common.{◌≡◌, ℕ, zero, suc, ◌+◌, ◌≤◌, true, false, Option, Some, List, [], ◌∷◌, length, ◌⊎◌, inl, inr, ap, sym, subst, refl, ◌∙◌, arith}
use Rattle.std.proofs.lemmas.Option.{same_Some}
use Rattle.std.proofs.lemmas.Bool.{cases_Bool}
use Rattle.route_finder.specs.declared.edge.Edge.{Edge}
use Rattle.route_finder.specs.Table.{by_one_more, least_prop}
use Rattle.route_finder.specs.Trace.{are_same, fewest, first_step, traced, with_step}
use Rattle.route_finder.specs.Walks.{link_of, links_of, prop_over, IsAmong, AreAmong, IsNetwork, Leads, IsWay, IsNotAbove}
use Rattle.route_finder.proofs.LeastPropagations.{IsFoundWithin, IsByEdge, none-is, after-way, way-after, one_more-edge, least_prop-within, least_prop-reached}
use Rattle.route_finder.proofs.FirstStep.{are_same-true, are_same-refl, goes_on-is, is-goes_on, IsFirst, first_step-is, first_step-some}

-- each way of this propagation by at most so many links has that many
pub record IsExact (edges : List Edge) (to links node prop : ℕ) : Type 0 where
  pub each : (walk : List Edge) → IsWay edges to links node walk → prop_over walk ≡ prop → length walk ≡ links

-- the first of these ways
pub record IsTraced (edges : List Edge) (to links node prop : ℕ) (walk : List Edge) : Type 0 where
  pub is_way : IsWay edges to links node walk
  pub is_prop : prop_over walk ≡ prop
  pub count : length walk ≡ links
  pub first : (other : List Edge) → IsWay edges to links node other → prop_over other ≡ prop → IsNotAbove (links_of walk) (links_of other)

-- the first edge of a way with the least propagation goes on
pub way-goes_on : (edges : List Edge) (to links node prop : ℕ) (step : Edge) (walk : List Edge) → least_prop edges to (suc links) node ≡ Some prop
    → IsWay edges to (suc links) node (step ∷ walk)
    → prop_over (step ∷ walk) ≡ prop → IsByEdge (least_prop edges to links) node prop step
unfolding least_prop prop_over
way-goes_on edges to links node prop step walk is way sum =
    let after = after-way edges to links node step walk way in
    let rest = least_prop-within edges to links step.to walk after.way in
    let whole = subst (λ n. IsFoundWithin (by_one_more (least_prop edges to links) edges n) (step.hop.prop + rest.value)) after.from
    (one_more-edge (least_prop edges to links) edges step rest.value after.among (record { value = rest.value; is = rest.is; less = omega arith })) in
    let same : whole.value ≡ prop = same_Some whole.value prop (sym whole.is ∙ is) in
    record { from = after.from; rest = rest.value; found = rest.is; sum = omega (arith, same, whole.less, rest.less, sum) }

-- and what is left is exact again
pub exact-after : (edges : List Edge) (to links node prop : ℕ) (step : Edge) → IsAmong edges step → (by : IsByEdge (least_prop edges to links) node prop step)
    → IsExact edges to (suc links) node prop → IsExact edges to links step.to by.rest
unfolding prop_over
exact-after edges to links node prop step among by exact = record {
  each = λ walk way sum.
      let longer = exact.each (step ∷ walk) (way-after edges to links node step walk among by.from way) (omega (arith, by.sum, sum)) in
      omega (arith, longer);
}

-- a first step, and what is traced after it
pub traced-step : (edges : List Edge) (to links node prop : ℕ) (step : Edge) (walk : List Edge) → IsNetwork edges
    → least_prop edges to (suc links) node ≡ Some prop → IsExact edges to (suc links) node prop
    → IsFirst (least_prop edges to links) (Some prop) node edges step → (by : IsByEdge (least_prop edges to links) node prop step) → IsTraced edges to links step.to by.rest walk → IsTraced edges to (suc links) node prop (step ∷ walk)
unfolding prop_over IsNotAbove
traced-step edges to links node prop step walk network is exact first by rest = record {
  is_way = way-after edges to links node step walk first.among by.from rest.is_way;
  is_prop = omega (arith, by.sum, rest.is_prop);
  count = ap suc rest.count;
  first = λ other way sum. before edges to links node prop step walk network is exact first by rest other way sum;
} where
  before : (edges : List Edge) (to links node prop : ℕ) (step : Edge) (walk : List Edge) → IsNetwork edges → least_prop edges to (suc links) node ≡ Some prop
      → IsExact edges to (suc links) node prop
      → IsFirst (least_prop edges to links) (Some prop) node edges step → (by : IsByEdge (least_prop edges to links) node prop step) → IsTraced edges to links step.to by.rest walk
      → (other : List Edge) → IsWay edges to (suc links) node other → prop_over other ≡ prop → IsNotAbove (links_of (step ∷ walk)) (links_of other)
  before edges to links node prop step walk network is exact first by rest [] way sum = absurd (let count = exact.each [] way sum in omega (arith, count))
  before edges to links node prop step walk network is exact first by rest (edge ∷ other) way sum =
      let after = after-way edges to links node edge other way in
      let goes = way-goes_on edges to links node prop edge other is way sum in
      elim (first.first edge after.among (is-goes_on (least_prop edges to links) prop node edge goes)) [
        | inl same ↦ inr (ap link_of same, rest.first other (subst (λ e. IsWay edges to links e.to other) (sym same) after.way) (let e : step.hop.prop ≡ edge.hop.prop = ap (λ e. e.hop.prop) same in omega (arith, by.sum, sum, e)))
        | inr less ↦ inl less
      ]

-- some way has the least propagation, so there is a step
pub step-some : (edges : List Edge) (to links node prop : ℕ) → least_prop edges to (suc links) node ≡ Some prop → IsExact edges to (suc links) node prop
    → (step : Edge) × (first_step (least_prop edges to links) (Some prop) node edges ≡ Some step)
step-some edges to links node prop is exact =
    let reached = least_prop-reached edges to (suc links) node prop is in
    by-walk edges to links node prop reached.walk is exact reached.is_way reached.is_prop where
      by-walk : (edges : List Edge) (to links node prop : ℕ) (walk : List Edge) → least_prop edges to (suc links) node ≡ Some prop
          → IsExact edges to (suc links) node prop → IsWay edges to (suc links) node walk → prop_over walk ≡ prop
          → (step : Edge) × (first_step (least_prop edges to links) (Some prop) node edges ≡ Some step)
      by-walk edges to links node prop [] is exact way sum = absurd (let count = exact.each [] way sum in omega (arith, count))
      by-walk edges to links node prop (step ∷ walk) is exact way sum =
          let after = after-way edges to links node step walk way in
          first_step-some (least_prop edges to links) (Some prop) node edges step after.among (is-goes_on (least_prop edges to links) prop node step (way-goes_on edges to links node prop step walk is way sum))

-- no step, where no link is left
traced-none : (edges : List Edge) (to node prop : ℕ) → least_prop edges to zero node ≡ Some prop → IsTraced edges to zero node prop []
unfolding least_prop Leads AreAmong prop_over IsNotAbove
traced-none edges to node prop is =
    let parts = none-is to node prop is in
    record { is_way = record { among = tt; leads = parts.0; few = omega arith }; is_prop = parts.1; count = refl; first = λ other way sum. tt }

pub traced-is : (edges : List Edge) (to links node prop : ℕ) → IsNetwork edges → least_prop edges to links node ≡ Some prop → IsExact edges to links node prop
    → IsTraced edges to links node prop (traced (least_prop edges to) edges links node)
unfolding traced
traced-is edges to zero node prop network is exact = traced-none edges to node prop is
traced-is edges to (suc links) node prop network is exact =
    let some = step-some edges to links node prop is exact in
    let step = some.0 in
    let first = first_step-is (least_prop edges to links) (Some prop) node edges step network some.1 in
    let by = goes_on-is (least_prop edges to links) prop node step first.goes in
    let rest = traced-is edges to links step.to by.rest network by.found (exact-after edges to links node prop step first.among by exact) in
    let whole : IsTraced edges to (suc links) node prop (with_step (Some step) (traced (least_prop edges to) edges links)) = traced-step edges to links node prop step _ network is exact first by rest in
    subst (λ s. IsTraced edges to (suc links) node prop (with_step s (traced (least_prop edges to) edges links))) (sym some.1 ∙ ap (λ w. first_step (least_prop edges to links) w node edges) (sym is)) whole

-- ---- how many links

-- from the number of links on the entry stays as it is, and one below it is another
pub record IsFewest (entry : ℕ → Option ℕ) (most links : ℕ) : Type 0 where
  pub less : links ≤ most
  pub same : entry links ≡ entry most
  pub other : (fewer : ℕ) → links ≡ suc fewer → entry fewer ≡ entry links → ⊥

pub fewest-is : (entry : ℕ → Option ℕ) (most : ℕ) → IsFewest entry most (fewest entry most)
unfolding fewest
fewest-is entry zero = record { less = omega arith; same = refl; other = λ fewer is same. absurd (omega (arith, is)) }
fewest-is entry (suc most) =
    elim (cases_Bool (are_same (entry most) (entry (suc most)))) [
      | inl same ↦
          let fewer = fewest-is entry most in
          rw same (record { less = omega (arith, fewer.less); same = fewer.same ∙ are_same-true (entry most) (entry (suc most)) same; other = fewer.other })
      | inr other ↦ rw other (record { less = omega arith; same = refl; other = λ fewer is same. clash entry most fewer other is same })
    ] where
      clash : (entry : ℕ → Option ℕ) (most fewer : ℕ) → are_same (entry most) (entry (suc most)) ≡ false → suc most ≡ suc fewer
          → entry fewer ≡ entry (suc most) → ⊥
      clash entry most fewer other is same =
          let e : most ≡ fewer = omega (arith, is) in
          let equal : entry most ≡ entry (suc most) = ap entry e ∙ same in
          let yes : are_same (entry most) (entry (suc most)) ≡ true = subst (λ v. are_same (entry most) v ≡ true) equal (are_same-refl (entry most)) in
          let no : true ≡ false = sym yes ∙ other in
          cc

-- a way stays one where fewer links are allowed than it could have, if it has no more
pub way-fewer : (edges : List Edge) (to most links node : ℕ) (walk : List Edge) → IsWay edges to most node walk → length walk ≤ links
    → IsWay edges to links node walk
way-fewer edges to most links node walk way few = record { among = way.among; leads = way.leads; few = few }

pub exact-fewest : (edges : List Edge) (to node most links prop : ℕ) → IsFewest (λ links. least_prop edges to links node) most links
    → least_prop edges to links node ≡ Some prop → IsExact edges to links node prop
exact-fewest edges to node most zero prop fewest is = record { each = λ walk way sum. omega (arith, way.few) }
exact-fewest edges to node most (suc links) prop fewest is = record { each = λ walk way sum. each edges to node most links prop fewest is walk way sum } where
  less-or-same : (n links : ℕ) → n ≤ suc links → (n ≤ links) ⊎ (n ≡ suc links)
  less-or-same n links less = grind arith

  each : (edges : List Edge) (to node most links prop : ℕ) → IsFewest (λ links. least_prop edges to links node) most (suc links)
      → least_prop edges to (suc links) node ≡ Some prop
      → (walk : List Edge) → IsWay edges to (suc links) node walk → prop_over walk ≡ prop → length walk ≡ suc links
  each edges to node most links prop fewest is walk way sum =
      elim (less-or-same (length walk) links way.few) [
        | inl less ↦
            let within = least_prop-within edges to links node walk (way-fewer edges to (suc links) links node walk way less) in
            let reached = least_prop-reached edges to links node within.value within.is in
            let back = least_prop-within edges to (suc links) node reached.walk (way-fewer edges to links (suc links) node reached.walk reached.is_way (omega (arith, reached.is_way.few))) in
            let least : prop ≡ back.value = same_Some prop back.value (sym is ∙ back.is) in
            let value : within.value ≡ prop = omega (arith, within.less, sum, back.less, reached.is_prop, least) in
            absurd (fewest.other links refl (within.is ∙ ap Some value ∙ sym is))
        | inr same ↦ same
      ]
