-- The table is filled a row at a time: the rows that are there have the least propagations, and each leaves room for one link more.
use Rattle.std.proofs.Common.{◌≡◌, ℕ, zero, suc, ◌+◌, ◌*◌, ◌^◌, ◌<◌, ◌≤◌, Option, List, [], ◌∷◌, ◌++◌, length, get_or, ◌⊎◌, inl, inr, ap, sym, subst, refl, ◌∙◌, arith}
use Rattle.std.proofs.Math.Seq.{get_or-append_seam}
use Rattle.std.proofs.lemmas.List.{get_or_append_left}
use Rattle.route_finder.specs.declared.edge.Edge.{Edge}
use Rattle.route_finder.specs.Table.{by_none, by_one_more, least_prop}
use Rattle.route_finder.specs.Rows.{in_row, entry, IsUpTo, AreRows}
use Rattle.route_finder.proofs.LeastPropagations.{none-is}

-- the rows by 0 to so many links
pub record HasTable (edges : List Edge) (to links : ℕ) (rows : List (List (Option ℕ))) : Type 0 where
  pub count : length rows ≡ links + 1
  pub entries : (few node : ℕ) → few ≤ links → entry rows few node ≡ least_prop edges to few node
  pub small : (few : ℕ) → few ≤ links → IsUpTo (few * 2 ^ 32) (get_or rows few [])

-- what was there before alone counts
pub one_more-same : (before before' : ℕ → Option ℕ) (edges : List Edge) (node : ℕ) → ((node : ℕ) → before node ≡ before' node)
    → by_one_more before edges node ≡ by_one_more before' edges node
unfolding by_one_more
one_more-same before before' [] node same = same node
one_more-same before before' (edge ∷ edges) node same =
    rw (same edge.to) (rw (one_more-same before before' edges node same) refl)

pub rows-first : (edges : List Edge) (to : ℕ) (row : List (Option ℕ)) → ((node : ℕ) → in_row row node ≡ by_none to node) → HasTable edges to 0 (row ∷ [])
unfolding least_prop
rows-first edges to row is = record {
  count = refl;
  entries = λ few node less. at edges to row few node is less;
  small = λ few less. small to row few is less;
} where
  at : (edges : List Edge) (to : ℕ) (row : List (Option ℕ)) (few node : ℕ) → ((node : ℕ) → in_row row node ≡ by_none to node) → few ≤ 0
      → entry (row ∷ []) few node ≡ least_prop edges to few node
  at edges to row zero node is less = is node
  at edges to row (suc few) node is less = absurd (omega arith)

  small : (to : ℕ) (row : List (Option ℕ)) (few : ℕ) → ((node : ℕ) → in_row row node ≡ by_none to node) → few ≤ 0
      → IsUpTo (few * 2 ^ 32) (get_or (row ∷ []) few [])
  small to row zero is less = record { each = λ node prop found. (let none = none-is to node prop (sym (is node) ∙ found) in omega (arith, none.1)) }
  small to row (suc few) is less = absurd (omega arith)

pub rows-more : (edges : List Edge) (to links : ℕ) (rows : List (List (Option ℕ))) (row : List (Option ℕ)) → HasTable edges to links rows
    → ((node : ℕ) → in_row row node ≡ by_one_more (in_row (get_or rows links [])) edges node) → IsUpTo (links * 2 ^ 32 + 2 ^ 32) row → HasTable edges to (links + 1) (rows ++ row ∷ [])
unfolding least_prop
rows-more edges to links rows row has is small = record {
  count = omega (arith, has.count, length-push rows row);
  entries = λ few node less. elim (last few links less) [
    | inl before ↦ ap (λ r. in_row r node) (get_or_append_left rows (row ∷ []) [] few (omega (arith, has.count, before))) ∙ has.entries few node before
    | inr now ↦ subst (λ n. entry (rows ++ row ∷ []) n node ≡ least_prop edges to n node) (sym now)
        (ap (λ r. in_row r node) (at-end rows row links has.count) ∙ is node ∙ one_more-same (in_row (get_or rows links [])) (least_prop edges to links) edges node (λ n. has.entries links n (omega arith)))
  ];
  small = λ few less. elim (last few links less) [
    | inl before ↦ subst (IsUpTo (few * 2 ^ 32)) (sym (get_or_append_left rows (row ∷ []) [] few (omega (arith, has.count, before)))) (has.small few before)
    | inr now ↦ subst (λ n. IsUpTo (n * 2 ^ 32) (get_or (rows ++ row ∷ []) n [])) (sym now)
        (subst (IsUpTo (suc links * 2 ^ 32)) (sym (at-end rows row links has.count)) (record { each = λ node prop found. (let most = small.each node prop found in omega (arith, most)) }))
  ];
} where
  length-push : (rows : List (List (Option ℕ))) (row : List (Option ℕ)) → length (rows ++ row ∷ []) ≡ suc (length rows)
  length-push [] row = refl
  length-push (first ∷ rows) row = ap suc (length-push rows row)

  last : (few links : ℕ) → few ≤ links + 1 → (few ≤ links) ⊎ (few ≡ suc links)
  last few links less = grind arith

  at-end : (rows : List (List (Option ℕ))) (row : List (Option ℕ)) (links : ℕ) → length rows ≡ links + 1 → get_or (rows ++ row ∷ []) (suc links) [] ≡ row
  at-end rows row links count = (let e : suc links ≡ length rows = omega (arith, count) in rw e (get_or-append_seam rows row [] []))

-- as the code reads the row before
pub rows-next : (edges : List Edge) (to links : ℕ) (rows : List (List (Option ℕ))) (before row : List (Option ℕ)) → HasTable edges to links rows
    → before ≡ get_or rows links before
    → ((node : ℕ) → in_row row node ≡ by_one_more (in_row before) edges node) → ((most : ℕ) → IsUpTo most before → IsUpTo (most + 2 ^ 32) row) → HasTable edges to (links + 1) (rows ++ row ∷ [])
rows-next edges to links rows before row has is entries small =
    let same : before ≡ get_or rows links [] = is ∙ any rows links before [] (omega (arith, has.count)) in
    rows-more edges to links rows row has (subst (λ b. (node : ℕ) → in_row row node ≡ by_one_more (in_row b) edges node) same entries)
    (small (links * 2 ^ 32) (subst (IsUpTo (links * 2 ^ 32)) (sym same) (has.small links (omega arith)))) where
      any : (rows : List (List (Option ℕ))) (i : ℕ) (d e : List (Option ℕ)) → i < length rows → get_or rows i d ≡ get_or rows i e
      any [] i d e within = absurd (omega (arith, within))
      any (row ∷ rows) zero d e within = refl
      any (row ∷ rows) (suc i) d e within = any rows i d e (omega arith)

pub rows-all : (edges : List Edge) (to : ℕ) (rows : List (List (Option ℕ))) → HasTable edges to 16 rows → AreRows rows
rows-all edges to rows has = record { count = has.count; small = has.small }
