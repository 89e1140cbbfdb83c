-- The table has the least propagations: by one link more, it is at most what each way gives, and some way gives it.
use Rattle.std.proofs.Common.{◌≡◌, ◌==◌, ℕ, zero, suc, ◌+◌, ◌≤◌, min, Option, Some, None, List, [], ◌∷◌, ◌⊎◌, inl, inr, ap, sym, subst, refl, ◌∙◌, arith}
use Rattle.std.proofs.lemmas.Bool.{cases_Bool, eqb-true, eq-eqb}
use Rattle.std.proofs.lemmas.Option.{same_Some}
use Rattle.route_finder.specs.declared.edge.Edge.{Edge}
use Rattle.route_finder.specs.Table.{lesser, beyond, by_edge, by_one_more, by_none, least_prop, IsReached, IsLeastProp}
use Rattle.route_finder.specs.Walks.{prop_over, IsAmong, AreAmong, Leads, IsWay}

-- there is a number, and it is at most this one
pub record IsFoundWithin (found : Option ℕ) (most : ℕ) : Type 0 where
  pub value : ℕ
  pub is : found ≡ Some value
  pub less : value ≤ most

-- ---- the smaller of two

pub lesser-left : (one other : Option ℕ) (most : ℕ) → IsFoundWithin one most → IsFoundWithin (lesser one other) most
lesser-left None other most within = absurd (let clash : None ≡ Some within.value = within.is in cc)
lesser-left (Some n) None most within = within
lesser-left (Some n) (Some m) most within = (let same : n ≡ within.value = same_Some n within.value within.is in record { value = min n m; is = refl; less = omega (arith, same, within.less) })

pub lesser-right : (one other : Option ℕ) (most : ℕ) → IsFoundWithin other most → IsFoundWithin (lesser one other) most
lesser-right None other most within = within
lesser-right (Some n) None most within = absurd (let clash : None ≡ Some within.value = within.is in cc)
lesser-right (Some n) (Some m) most within = (let same : m ≡ within.value = same_Some m within.value within.is in record { value = min n m; is = refl; less = omega (arith, same, within.less) })

pub lesser-either : (one other : Option ℕ) (n : ℕ) → lesser one other ≡ Some n → (one ≡ Some n) ⊎ (other ≡ Some n)
lesser-either None other n is = inr is
lesser-either (Some a) None n is = inl is
lesser-either (Some a) (Some b) n is =
    let same : min a b ≡ n = same_Some (min a b) n is in
    elim (min-cases a b) [
      | inl first ↦ inl (ap Some (sym first ∙ same))
      | inr second ↦ inr (ap Some (sym second ∙ same))
    ] where
      min-cases : (a b : ℕ) → (min a b ≡ a) ⊎ (min a b ≡ b)
      min-cases a b = grind arith

-- ---- by one link more

-- what the way by an edge is made of
pub record IsByEdge (before : ℕ → Option ℕ) (node prop : ℕ) (edge : Edge) : Type 0 where
  pub from : edge.from ≡ node
  pub rest : ℕ
  pub found : before edge.to ≡ Some rest
  pub sum : edge.hop.prop + rest ≡ prop

pub beyond-is : (prop : ℕ) (rest : Option ℕ) (n : ℕ) → beyond prop rest ≡ Some n → (r : ℕ) × (rest ≡ Some r) × (prop + r ≡ n)
beyond-is prop None n is = absurd (let clash : None ≡ Some n = is in cc)
beyond-is prop (Some r) n is = (r, refl, same_Some (prop + r) n is)

pub by_edge-is : (before : ℕ → Option ℕ) (edge : Edge) (node prop : ℕ) → by_edge before edge node ≡ Some prop → IsByEdge before node prop edge
by_edge-is before edge node prop is =
    elim (cases_Bool (edge.from == node)) [
      | inl here ↦
          let parts = beyond-is edge.hop.prop (before edge.to) prop (rw here at is) in
          record { from = eqb-true edge.from node here; rest = parts.0; found = parts.1; sum = parts.2 }
      | inr other ↦ absurd (let clash : None ≡ Some prop = rw other at is in cc)
    ]

pub by_edge-within : (before : ℕ → Option ℕ) (edge : Edge) (node most : ℕ) → edge.from ≡ node → IsFoundWithin (before edge.to) most
    → IsFoundWithin (by_edge before edge node) (edge.hop.prop + most)
by_edge-within before edge node most from within =
    rw (eq-eqb edge.from node from) (rw within.is (record { value = edge.hop.prop + within.value; is = refl; less = omega (arith, within.less) }))

pub one_more-before : (before : ℕ → Option ℕ) (edges : List Edge) (node most : ℕ) → IsFoundWithin (before node) most → IsFoundWithin (by_one_more before edges node) most
unfolding by_one_more
one_more-before before [] node most within = within
one_more-before before (edge ∷ edges) node most within = lesser-right (by_edge before edge node) (by_one_more before edges node) most (one_more-before before edges node most within)

pub one_more-edge : (before : ℕ → Option ℕ) (edges : List Edge) (edge : Edge) (most : ℕ) → IsAmong edges edge → IsFoundWithin (before edge.to) most
    → IsFoundWithin (by_one_more before edges edge.from) (edge.hop.prop + most)
unfolding by_one_more IsAmong
one_more-edge before [] edge most among within = absurd among
one_more-edge before (first ∷ edges) edge most (inl same) within =
    subst (λ e. IsFoundWithin (by_one_more before (first ∷ edges) e.from) (e.hop.prop + most)) same
    (lesser-left (by_edge before first first.from) (by_one_more before edges first.from) (first.hop.prop + most)
    (by_edge-within before first first.from most refl (subst (λ e. IsFoundWithin (before e.to) most) (sym same) within)))
one_more-edge before (first ∷ edges) edge most (inr later) within =
    lesser-right (by_edge before first edge.from) (by_one_more before edges edge.from) (edge.hop.prop + most) (one_more-edge before edges edge most later within)

-- by an edge of these
pub record IsByOne (before : ℕ → Option ℕ) (edges : List Edge) (node prop : ℕ) : Type 0 where
  pub edge : Edge
  pub among : IsAmong edges edge
  pub by : IsByEdge before node prop edge

pub one_more-either : (before : ℕ → Option ℕ) (edges : List Edge) (node prop : ℕ) → by_one_more before edges node ≡ Some prop
    → (before node ≡ Some prop) ⊎ IsByOne before edges node prop
unfolding by_one_more IsAmong
one_more-either before [] node prop is = inl is
one_more-either before (edge ∷ edges) node prop is =
    elim (lesser-either (by_edge before edge node) (by_one_more before edges node) prop is) [
      | inl first ↦ inr (record { edge = edge; among = inl refl; by = by_edge-is before edge node prop first })
      | inr later ↦ elim (one_more-either before edges node prop later) [
        | inl same ↦ inl same
        | inr one ↦ inr (record { edge = one.edge; among = inr one.among; by = one.by })
      ]
    ]

-- ---- by so many links

-- a way from a node on stays one where more links are allowed
pub way-more : (edges : List Edge) (to most node : ℕ) (walk : List Edge) → IsWay edges to most node walk → IsWay edges to (suc most) node walk
way-more edges to most node walk way = record { among = way.among; leads = way.leads; few = omega (arith, way.few) }

-- an edge before a way
pub way-after : (edges : List Edge) (to most node : ℕ) (step : Edge) (walk : List Edge) → IsAmong edges step → step.from ≡ node
    → IsWay edges to most step.to walk → IsWay edges to (suc most) node (step ∷ walk)
unfolding AreAmong Leads
way-after edges to most node step walk among from way = record { among = (among, way.among); leads = (from, way.leads); few = omega (arith, way.few) }

-- the way after its first edge
pub record IsAfter (edges : List Edge) (to most node : ℕ) (step : Edge) (walk : List Edge) : Type 0 where
  pub among : IsAmong edges step
  pub from : step.from ≡ node
  pub way : IsWay edges to most step.to walk

pub after-way : (edges : List Edge) (to most node : ℕ) (step : Edge) (walk : List Edge) → IsWay edges to (suc most) node (step ∷ walk)
    → IsAfter edges to most node step walk
unfolding AreAmong Leads
after-way edges to most node step walk way =
    let among : IsAmong edges step × AreAmong edges walk = way.among in
    let leads : (step.from ≡ node) × Leads step.to to walk = way.leads in
    record { among = among.0; from = leads.0; way = record { among = among.1; leads = leads.1; few = omega (arith, way.few) } }

pub none-at : (to node : ℕ) → node ≡ to → by_none to node ≡ Some 0
none-at to node same = rw (eq-eqb node to same) refl

pub none-is : (to node prop : ℕ) → by_none to node ≡ Some prop → (node ≡ to) × (0 ≡ prop)
none-is to node prop is =
    elim (cases_Bool (node == to)) [
      | inl here ↦ (eqb-true node to here, same_Some 0 prop (rw here at is))
      | inr other ↦ absurd (let clash : None ≡ Some prop = rw other at is in cc)
    ]

-- each way has at least the propagation of the table
pub least_prop-within : (edges : List Edge) (to links node : ℕ) (walk : List Edge) → IsWay edges to links node walk
    → IsFoundWithin (least_prop edges to links node) (prop_over walk)
unfolding least_prop prop_over Leads
least_prop-within edges to zero node [] way = record { value = 0; is = none-at to node way.leads; less = omega arith }
least_prop-within edges to zero node (step ∷ walk) way = absurd (omega (arith, way.few))
least_prop-within edges to (suc links) node [] way =
    one_more-before (least_prop edges to links) edges node 0 (least_prop-within edges to links node [] (record { among = way.among; leads = way.leads; few = omega arith }))
least_prop-within edges to (suc links) node (step ∷ walk) way =
    let after = after-way edges to links node step walk way in
    subst (λ n. IsFoundWithin (by_one_more (least_prop edges to links) edges n) (step.hop.prop + prop_over walk)) after.from
    (one_more-edge (least_prop edges to links) edges step (prop_over walk) after.among (least_prop-within edges to links step.to walk after.way))

-- and some way has that
pub least_prop-reached : (edges : List Edge) (to links node prop : ℕ) → least_prop edges to links node ≡ Some prop → IsReached edges to links node prop
unfolding least_prop prop_over Leads AreAmong
least_prop-reached edges to zero node prop is =
    let none = none-is to node prop is in
    record { walk = []; is_way = record { among = tt; leads = none.0; few = omega arith }; is_prop = none.1 }
least_prop-reached edges to (suc links) node prop is =
    elim (one_more-either (least_prop edges to links) edges node prop is) [
      | inl before ↦
          let reached = least_prop-reached edges to links node prop before in
          record { walk = reached.walk; is_way = way-more edges to links node reached.walk reached.is_way; is_prop = reached.is_prop }
      | inr one ↦
          let reached = least_prop-reached edges to links one.edge.to one.by.rest one.by.found in
          record {
            walk = one.edge ∷ reached.walk;
            is_way = way-after edges to links node one.edge reached.walk one.among one.by.from reached.is_way;
            is_prop = omega (arith, reached.is_prop, one.by.sum);
          }
    ]

-- so the table tells the least propagation, or that there is no way
pub least_prop-is : (edges : List Edge) (to links node : ℕ) (found : Option ℕ) → least_prop edges to links node ≡ found → IsLeastProp edges to links node found
unfolding IsLeastProp
least_prop-is edges to links node None is = λ walk way.
    let within = least_prop-within edges to links node walk way in
    let clash : None ≡ Some within.value = sym is ∙ within.is in
    cc
least_prop-is edges to links node (Some prop) is = (
  least_prop-reached edges to links node prop is,
  λ walk way.
      let within = least_prop-within edges to links node walk way in
      let same : prop ≡ within.value = same_Some prop within.value (sym is ∙ within.is) in
      omega (arith, same, within.less),
)
