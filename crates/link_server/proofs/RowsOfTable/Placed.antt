-- The rows that a table keeps and those of the account go together: the row of a channel is found, changed and taken out where it
-- stands.
use Rattle.std.proofs.Common.{◌≡◌, ℕ, zero, suc, inl, inr, Bool, true, List, [], ◌∷◌, map, get_or, set, Some, refl, sym, ap, subst, arith}
use Rattle.std.proofs.lemmas.Bool.{cases_Bool, and_left}
use Rattle.std.proofs.lemmas.Option.{same_Some}
use Rattle.link_server.proofs.Words.{remove, find, ChanNo, AccountRow, is_account_of, is_account_at_hop, ServedRow, row_in, is_served_row_of, IsPlaceOf}
use Rattle.link_steps.specs.Lists.{Each, change_first, without_first}
use Rattle.link_server.specs.Changes.{IsRowAtHop}
use Rattle.link_server.proofs.RowsOfTable.Places.{place-later}

-- ---- in both

module _ (chan : ChanNo) where
  -- what stands at its place is found
  pub found-at : (rows : List ServedRow) (i : ℕ) (d : ServedRow) → IsPlaceOf chan rows i → find (is_account_of chan) (map row_in rows) ≡ Some (row_in (get_or rows i d))
  found-at [] i d place = let h = place.inside in absurd (omega arith)
  found-at (row ∷ rows) zero d place = rw (place.here row) refl
  found-at (row ∷ rows) (suc i) d place = rw (place.before 0 row (omega arith)) (found-at rows i d (place-later (is_served_row_of chan) row rows i place))

  -- it is the one that is changed, and taken out
  pub changed-mapped : (change : AccountRow → AccountRow) (rows : List ServedRow) (i : ℕ) (new d : ServedRow) → IsPlaceOf chan rows i → row_in new ≡ change (row_in (get_or rows i d)) → map row_in (set rows i new) ≡ change_first (is_account_of chan) change (map row_in rows)
  unfolding change_first
  changed-mapped change [] i new d place same = let h = place.inside in absurd (omega arith)
  changed-mapped change (row ∷ rows) zero new d place same = rw (place.here row) (ap (λ k. k ∷ map row_in rows) same)
  changed-mapped change (row ∷ rows) (suc i) new d place same = rw (place.before 0 row (omega arith)) (ap (λ all. row_in row ∷ all) (changed-mapped change rows i new d (place-later (is_served_row_of chan) row rows i place) same))

  pub removed-first : (rows : List ServedRow) (i : ℕ) → IsPlaceOf chan rows i → map row_in (remove rows i) ≡ without_first (is_account_of chan) (map row_in rows)
  unfolding without_first
  removed-first [] i place = let h = place.inside in absurd (omega arith)
  removed-first (row ∷ rows) zero place = rw (place.here row) refl
  removed-first (row ∷ rows) (suc i) place = rw (place.before 0 row (omega arith)) (ap (λ all. row_in row ∷ all) (removed-first rows i (place-later (is_served_row_of chan) row rows i place)))

pub removed-mapped : {X Y : Type 0} (f : X → Y) (xs : List X) (i : ℕ) → map f (remove xs i) ≡ remove (map f xs) i
removed-mapped f [] zero = refl
removed-mapped f [] (suc i) = refl
removed-mapped f (x ∷ xs) zero = refl
removed-mapped f (x ∷ xs) (suc i) = ap (λ all. f x ∷ all) (removed-mapped f xs i)

-- a fact of each, where one is changed, is a fact of that one
pub each-changed : {X : Type 0} (P : X → Type 0) (test : X → Bool) (change : X → X) (xs : List X) (x : X) → find test xs ≡ Some x → Each P (change_first test change xs) → P (change x)
unfolding change_first
each-changed P test change [] x found each = cc
each-changed P test change (y ∷ xs) x found each =
    elim (cases_Bool (test y)) [
      | inl passed ↦ (let now = rw passed at each in subst (λ z. P (change z)) (same_Some y x (rw passed at found)) now.0)
      | inr failed ↦ (let rest = rw failed at each in each-changed P test change xs x (rw failed at found) rest.1)
    ]

-- ---- at a first hop, or at a later one

-- the channel's row that is at it is the first that is so
module _ (chan : ChanNo) (first : Bool) where
  pub hop-found : (rows : List AccountRow) (row : AccountRow) → IsRowAtHop chan first rows row → find (is_account_at_hop chan first) rows ≡ Some row
  hop-found [] row is = is.found
  hop-found (r ∷ rows) row is =
      elim (cases_Bool (is_account_of chan r)) [
        | inl own ↦ (let same = same_Some r row (rw own at is.found) in let here : is_account_at_hop chan first r ≡ true = subst (λ x. is_account_at_hop chan first x ≡ true) (sym same) is.at_hop in rw here (ap Some same))
        | inr other ↦ (let found = rw other at is.found in rw (and_left (is_account_of chan r) _ other) (hop-found rows row (record { found = found; at_hop = is.at_hop })))
      ]

  pub hop-changed : (change : AccountRow → AccountRow) (rows : List AccountRow) (row : AccountRow) → IsRowAtHop chan first rows row → change_first (is_account_of chan) change rows ≡ change_first (is_account_at_hop chan first) change rows
  unfolding change_first
  hop-changed change [] row is = refl
  hop-changed change (r ∷ rows) row is =
      elim (cases_Bool (is_account_of chan r)) [
        | inl own ↦ (let same = same_Some r row (rw own at is.found) in let here : is_account_at_hop chan first r ≡ true = subst (λ x. is_account_at_hop chan first x ≡ true) (sym same) is.at_hop in let at = rw own at here in rw (own, at) refl)
        | inr other ↦ (let found = rw other at is.found in rw other (ap (λ all. r ∷ all) (hop-changed change rows row (record { found = found; at_hop = is.at_hop }))))
      ]
