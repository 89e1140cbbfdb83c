-- Where the channel's row stands: what is found, changed and taken out is there.
use Rattle.std.proofs.Common.{◌≡◌, Bool, true, false, ℕ, zero, suc, List, [], ◌∷◌, map, Option, Some, None, refl, sym, ap, ◌∙◌, arith}
use Rattle.std.proofs.Common.{⊎_elim}
use Rattle.std.proofs.lemmas.Bool.{cases_Bool}
use Rattle.link_server.proofs.Words.{find, ChanNo, AccountRow, is_account_of, account_terms, is_of, ServedRow, reservation_in, row_in, is_served_row_of, NoRowPasses, IsFirstPlace, IsAbsent}
use Rattle.std.specs.List.{All, remove}
use Rattle.std.specs.Option.{option_map}
use Rattle.link_steps.proofs.SearchAndFilter.{find-map}

-- a place past the first row is one of the others
pub place-later : {X : Type 0} (test : X → Bool) (row : X) (rows : List X) (i : ℕ) → IsFirstPlace test (row ∷ rows) (suc i) → IsFirstPlace test rows i
place-later test row rows i place = record {
  inside = let h = place.inside in omega arith;
  here = λ d. place.here d;
  before = λ k d below. place.before (suc k) d (omega arith);
}

-- where there is no row none is found
pub absent-found : {X : Type 0} (test : X → Bool) (rows : List X) → NoRowPasses test rows → find test rows ≡ None
absent-found test [] absent = refl
absent-found test (row ∷ rows) absent = rw (absent 0 row (omega arith)) (absent-found test rows (λ k d inside. absent (suc k) d (omega arith)))

-- and the other way round
absent-after : {X : Type 0} (test : X → Bool) (row : X) (rows : List X) → test row ≡ false → NoRowPasses test rows → NoRowPasses test (row ∷ rows)
absent-after test row rows fails others zero d inside = fails
absent-after test row rows fails others (suc k) d inside = others k d (omega arith)

found-absent : {X : Type 0} (test : X → Bool) (rows : List X) → find test rows ≡ None → NoRowPasses test rows
found-absent test [] none = λ k d inside. absurd (omega arith)
found-absent test (row ∷ rows) none =
    ⊎_elim (λ (passes : test row ≡ true). absurd (let some : Some row ≡ None = rw passes at none in cc))
    (λ (fails : test row ≡ false). absent-after test row rows fails (found-absent test rows (rw fails at none)))
    (cases_Bool (test row))

-- where there is no row none is found in the account
pub kept-absent : (test : ServedRow → Bool) (seen : AccountRow → Bool) → ((row : ServedRow) → seen (row_in row) ≡ test row) → (rows : List ServedRow) → NoRowPasses test rows → find seen (map row_in rows) ≡ None
kept-absent test seen same rows absent = find-map row_in test seen same rows ∙ ap (option_map row_in) (absent-found test rows absent)

-- the reservations of the account are those of the rows
pub terms-kept : (rows : List ServedRow) → map account_terms (map row_in rows) ≡ map reservation_in rows
terms-kept [] = refl
terms-kept (row ∷ rows) = ap (λ all. reservation_in row ∷ all) (terms-kept rows)

find-terms : (chan : ChanNo) (rows : List AccountRow) → find (is_of chan) (map account_terms rows) ≡ option_map account_terms (find (is_account_of chan) rows)
find-terms chan rows = find-map account_terms (is_account_of chan) (is_of chan) (λ row. refl) rows

-- the reservation of the channel, where it has a row, and where it has none
pub terms-found : (chan : ChanNo) (rows : List AccountRow) (row : AccountRow) → find (is_account_of chan) rows ≡ Some row → find (is_of chan) (map account_terms rows) ≡ Some row.terms
terms-found chan rows row found = find-terms chan rows ∙ ap (option_map account_terms) found

pub terms-absent : (chan : ChanNo) (rows : List AccountRow) → find (is_account_of chan) rows ≡ None → find (is_of chan) (map account_terms rows) ≡ None
terms-absent chan rows absent = find-terms chan rows ∙ ap (option_map account_terms) absent

pub terms-none : (chan : ChanNo) (rows : List AccountRow) → find (is_of chan) (map account_terms rows) ≡ None → find (is_account_of chan) rows ≡ None
terms-none chan rows none = mapped-none (find (is_account_of chan) rows) (sym (find-terms chan rows) ∙ none) where
  mapped-none : (found : Option AccountRow) → option_map account_terms found ≡ None → found ≡ None
  mapped-none None none = refl
  mapped-none (Some row) none = cc

-- where the account has no row of the channel, no row is the channel's
pub kept-none : (chan : ChanNo) (rows : List ServedRow) → find (is_account_of chan) (map row_in rows) ≡ None → IsAbsent chan rows
kept-none chan rows none = found-absent (is_served_row_of chan) rows (mapped-none (find (is_served_row_of chan) rows) (sym (find-map row_in (is_served_row_of chan) (is_account_of chan) (λ row. refl) rows) ∙ none)) where
  mapped-none : (found : Option ServedRow) → option_map row_in found ≡ None → found ≡ None
  mapped-none None none = refl
  mapped-none (Some row) none = cc

-- a fact of each row stays where one is taken out
pub all-without : {X : Type 0} (P : X → Type 0) (xs : List X) (i : ℕ) → All P xs → All P (remove xs i)
all-without P [] zero all = all
all-without P [] (suc i) all = all
all-without P (x ∷ xs) zero all = λ k d inside. all (suc k) d (omega arith)
all-without P (x ∷ xs) (suc i) all = all-put P x (remove xs i) (all 0 x (omega arith)) (all-without P xs i (λ k d inside. all (suc k) d (omega arith))) where
  all-put : {X : Type 0} (P : X → Type 0) (x : X) (xs : List X) → P x → All P xs → All P (x ∷ xs)
  all-put P x xs first rest zero d inside = first
  all-put P x xs first rest (suc k) d inside = rest k d (omega arith)
