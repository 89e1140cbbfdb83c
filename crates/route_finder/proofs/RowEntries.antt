-- Rows: one entry set, and what a row has after one more edge.
use Rattle.std.proofs.Common.{◌≡◌, ◌==◌, ℕ, zero, suc, ◌+◌, ◌^◌, ◌<◌, Option, Some, None, List, [], ◌∷◌, length, drop, get_or, set, replicate, inl, inr, ap, sym, subst, refl, ◌∙◌, arith}
use Rattle.std.proofs.Math.Seq.{drop-cons}
use Rattle.std.proofs.lemmas.Bool.{cases_Bool, eqb-true, eqb-false}
use Rattle.std.proofs.lemmas.List.{get_or-set_same, get_or-set_other, drop_all}
use Rattle.route_finder.specs.declared.edge.Edge.{Edge}
use Rattle.route_finder.specs.Table.{by_none, lesser, beyond, by_one_more}
use Rattle.route_finder.specs.Rows.{in_row, IsUpTo}
use Rattle.route_finder.specs.Walks.{IsEdge, IsNetwork}
use Rattle.route_finder.proofs.LeastPropagations.{lesser-either, beyond-is}

-- an empty row
pub none-entry : (n node : ℕ) → in_row (replicate n None) node ≡ None
none-entry zero node = refl
none-entry (suc n) zero = refl
none-entry (suc n) (suc node) = none-entry n node

pub row-none : (to node : ℕ) → to < 64 → in_row (set (replicate 64 None) to (Some 0)) node ≡ by_none to node
row-none to node within =
    elim (cases_Bool (node == to)) [
      | inl here ↦ rw here (let same : node ≡ to = eqb-true node to here in rw same (get_or-set_same (replicate 64 None) to (Some 0) None within))
      | inr other ↦ rw other (get_or-set_other (replicate 64 None) to node (Some 0) None (eqb-false node to other) ∙ none-entry 64 node)
    ]

-- no edge yet
pub one_more-none : (before : List (Option ℕ)) (edges : List Edge) (node : ℕ)
    → in_row before node ≡ by_one_more (in_row before) (drop (length edges) edges) node
unfolding by_one_more
one_more-none before edges node = rw (drop_all (length edges) edges (omega arith)) refl

-- the edges of a network have their nodes among 64
pub edge-at : (edges : List Edge) (index : ℕ) (d : Edge) → IsNetwork edges → index < length edges → IsEdge (get_or edges index d)
unfolding IsNetwork
edge-at [] index d network within = absurd (omega (arith, within))
edge-at (edge ∷ edges) zero d network within = network.0
edge-at (edge ∷ edges) (suc index) d network within = edge-at edges index d network.2 (omega arith)

-- one more edge
pub one_more-row : (before row : List (Option ℕ)) (edges : List Edge) (index : ℕ) (edge : Edge) (entry : Option ℕ) → index < length edges
    → get_or edges index edge ≡ edge → edge.from < length row
    → entry ≡ lesser (beyond edge.hop.prop (in_row before edge.to)) (in_row row edge.from) → ((node : ℕ) → in_row row node ≡ by_one_more (in_row before) (drop (suc index) edges) node)
    → (node : ℕ) → in_row (set row edge.from entry) node ≡ by_one_more (in_row before) (drop index edges) node
unfolding by_one_more
one_more-row before row edges index edge entry within is inside set_to kept node =
    rw (drop-cons edges index edge within) (rw is (elim (cases_Bool (edge.from == node)) [
      | inl here ↦
          let same : edge.from ≡ node = eqb-true edge.from node here in
          rw here (subst (λ n. in_row (set row edge.from entry) n ≡ lesser (beyond edge.hop.prop (in_row before edge.to)) (by_one_more (in_row before) (drop (suc index) edges) n)) same
          (get_or-set_same row edge.from entry None inside ∙ set_to ∙ ap (lesser (beyond edge.hop.prop (in_row before edge.to))) (kept edge.from)))
      | inr other ↦ rw other (get_or-set_other row edge.from node entry None (λ same. eqb-false edge.from node other (sym same)) ∙ kept node)
    ]))

-- and its entries stay small
pub small-row : (most : ℕ) (before row : List (Option ℕ)) (edge : Edge) (entry : Option ℕ) → edge.hop.prop < 2 ^ 32 → edge.from < length row
    → entry ≡ lesser (beyond edge.hop.prop (in_row before edge.to)) (in_row row edge.from) → IsUpTo most before → IsUpTo (most + 2 ^ 32) row → IsUpTo (most + 2 ^ 32) (set row edge.from entry)
small-row most before row edge entry small inside set_to first kept = record {
  each = λ node prop is.
      elim (cases_Bool (node == edge.from)) [
        | inl here ↦
            let same : node ≡ edge.from = eqb-true node edge.from here in
            let here' : entry ≡ Some prop = sym (get_or-set_same row edge.from entry None inside) ∙ ap (in_row (set row edge.from entry)) (sym same) ∙ is in
            elim (lesser-either (beyond edge.hop.prop (in_row before edge.to)) (in_row row edge.from) prop (sym set_to ∙ here')) [
              | inl by ↦ (let parts = beyond-is edge.hop.prop (in_row before edge.to) prop by in omega (arith, parts.2, first.each edge.to parts.0 parts.1))
              | inr was ↦ kept.each edge.from prop was
            ]
        | inr other ↦ kept.each node prop (sym (get_or-set_other row edge.from node entry None (eqb-false node edge.from other)) ∙ is)
      ];
}
