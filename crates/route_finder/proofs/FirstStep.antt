-- The first step: it is an edge of the network by which the entry is reached, and comes before every other such edge.
use Rattle.std.proofs.Common.{◌≡◌, ◌==◌, ℕ, ◌+◌, ◌<◌, true, false, Option, Some, None, List, [], ◌∷◌, ◌⊎◌, inl, inr, ap, sym, subst, refl, ◌∙◌, arith}
use Rattle.std.proofs.lemmas.Bool.{cases_Bool, eqb-true, eq-eqb}
use Rattle.std.proofs.lemmas.Option.{same_Some}
use Rattle.route_finder.specs.declared.edge.Edge.{Edge}
use Rattle.route_finder.specs.Table.{beyond}
use Rattle.route_finder.specs.Trace.{are_same, goes_on, first_step}
use Rattle.route_finder.specs.Walks.{link_of, IsAmong, AreAbove, IsNetwork}
use Rattle.route_finder.proofs.LeastPropagations.{IsByEdge, beyond-is}

-- ---- entries that are the same

pub are_same-true : (one other : Option ℕ) → are_same one other ≡ true → one ≡ other
are_same-true None None same = refl
are_same-true None (Some b) same = absurd (let clash : false ≡ true = same in cc)
are_same-true (Some a) None same = absurd (let clash : false ≡ true = same in cc)
are_same-true (Some a) (Some b) same = ap Some (eqb-true a b same)

pub are_same-refl : (one : Option ℕ) → are_same one one ≡ true
are_same-refl None = refl
are_same-refl (Some a) = eq-eqb a a refl

pub are_same-equal : (one other : Option ℕ) → one ≡ other → are_same one other ≡ true
are_same-equal one other same = subst (λ v. are_same one v ≡ true) same (are_same-refl one)

pub goes_on-is : (rest : ℕ → Option ℕ) (prop node : ℕ) (edge : Edge) → goes_on rest (Some prop) node edge ≡ true → IsByEdge rest node prop edge
goes_on-is rest prop node edge goes =
    elim (cases_Bool (edge.from == node)) [
      | inl here ↦
          let same : are_same (beyond edge.hop.prop (rest edge.to)) (Some prop) ≡ true = rw here at goes in
          let parts = beyond-is edge.hop.prop (rest edge.to) prop (are_same-true (beyond edge.hop.prop (rest edge.to)) (Some prop) same) in
          record { from = eqb-true edge.from node here; rest = parts.0; found = parts.1; sum = parts.2 }
      | inr other ↦ absurd (let clash : false ≡ true = rw other at goes in cc)
    ]

pub is-goes_on : (rest : ℕ → Option ℕ) (prop node : ℕ) (edge : Edge) → IsByEdge rest node prop edge → goes_on rest (Some prop) node edge ≡ true
is-goes_on rest prop node edge by =
    rw (eq-eqb edge.from node by.from) (rw by.found (rw (eq-eqb (edge.hop.prop + by.rest) prop by.sum) refl))

-- ---- the first of them

-- the edge comes before the other, or is it
abbrev pub ComesBefore : Edge → Edge → Type 0
ComesBefore edge other = (edge ≡ other) ⊎ (link_of edge < link_of other)

pub above-among : (low : ℕ) (edges : List Edge) (edge : Edge) → AreAbove low edges → IsAmong edges edge → low < link_of edge
unfolding AreAbove IsAmong
above-among low [] edge above among = absurd among
above-among low (first ∷ edges) edge above (inl same) = subst (λ e. low < link_of e) same above.0
above-among low (first ∷ edges) edge above (inr later) = above-among low edges edge above.1 later

-- two edges of one link are the same
pub same-edge : (edges : List Edge) (one other : Edge) → IsNetwork edges → IsAmong edges one → IsAmong edges other → link_of one ≡ link_of other → one ≡ other
unfolding IsNetwork IsAmong
same-edge [] one other network among among' same = absurd among
same-edge (first ∷ edges) one other network (inl is) (inl is') same = sym is ∙ is'
same-edge (first ∷ edges) one other network (inl is) (inr later) same =
    absurd (let above = above-among (link_of first) edges other network.1 later in let e : link_of first ≡ link_of one = ap link_of is in omega (arith, above, e, same))
same-edge (first ∷ edges) one other network (inr later) (inl is) same =
    absurd (let above = above-among (link_of first) edges one network.1 later in let e : link_of first ≡ link_of other = ap link_of is in omega (arith, above, e, same))
same-edge (first ∷ edges) one other network (inr later) (inr later') same = same-edge edges one other network.2 later later' same

-- an edge of the network that goes on, before every other such edge
pub record IsFirst (rest : ℕ → Option ℕ) (whole : Option ℕ) (node : ℕ) (edges : List Edge) (edge : Edge) : Type 0 where
  pub among : IsAmong edges edge
  pub goes : goes_on rest whole node edge ≡ true
  pub first : (other : Edge) → IsAmong edges other → goes_on rest whole node other ≡ true → ComesBefore edge other

pub first_step-is : (rest : ℕ → Option ℕ) (whole : Option ℕ) (node : ℕ) (edges : List Edge) (edge : Edge) → IsNetwork edges
    → first_step rest whole node edges ≡ Some edge → IsFirst rest whole node edges edge
unfolding first_step IsAmong IsNetwork
first_step-is rest whole node [] edge network is = absurd (let clash : None ≡ Some edge = is in cc)
first_step-is rest whole node (first ∷ edges) edge network is =
    elim (cases_Bool (goes_on rest whole node first)) [
      | inl goes ↦
          let same : first ≡ edge = same_Some first edge (rw goes at is) in
          subst (IsFirst rest whole node (first ∷ edges)) same (record { among = inl refl; goes = goes; first = λ other among goes'. before first edges other network.1 among })
      | inr stays ↦
          let later = first_step-is rest whole node edges edge network.2 (rw stays at is) in
          record { among = inr later.among; goes = later.goes; first = λ other among goes. after rest whole node first edges edge other stays later among goes }
    ] where
      before : (first : Edge) (edges : List Edge) (other : Edge) → AreAbove (link_of first) edges → IsAmong (first ∷ edges) other → ComesBefore first other
      before first edges other above (inl same) = inl same
      before first edges other above (inr later) = inr (above-among (link_of first) edges other above later)

      after : (rest : ℕ → Option ℕ) (whole : Option ℕ) (node : ℕ) (first : Edge) (edges : List Edge) (edge other : Edge)
          → goes_on rest whole node first ≡ false → IsFirst rest whole node edges edge → IsAmong (first ∷ edges) other → goes_on rest whole node other ≡ true
          → ComesBefore edge other
      after rest whole node first edges edge other stays is (inl same) goes =
          absurd (let clash : false ≡ true = sym stays ∙ ap (goes_on rest whole node) same ∙ goes in cc)
      after rest whole node first edges edge other stays is (inr later) goes = is.first other later goes

-- where some edge goes on, there is a first step
pub first_step-some : (rest : ℕ → Option ℕ) (whole : Option ℕ) (node : ℕ) (edges : List Edge) (edge : Edge) → IsAmong edges edge
    → goes_on rest whole node edge ≡ true → (step : Edge) × (first_step rest whole node edges ≡ Some step)
unfolding first_step IsAmong
first_step-some rest whole node [] edge among goes = absurd among
first_step-some rest whole node (first ∷ edges) edge (inl same) goes = (first, (let here : goes_on rest whole node first ≡ true = ap (goes_on rest whole node) same ∙ goes in rw here refl))
first_step-some rest whole node (first ∷ edges) edge (inr later) goes =
    elim (cases_Bool (goes_on rest whole node first)) [
      | inl here ↦ (first, rw here refl)
      | inr stays ↦ (let found = first_step-some rest whole node edges edge later goes in (found.0, rw stays found.1))
    ]
