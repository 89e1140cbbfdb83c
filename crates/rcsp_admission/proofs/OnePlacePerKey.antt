-- An index has one place under each key. What a place put, one taken out, and rows that move up make of it.
use Rattle.std.proofs.Common.{◌≡◌, ℕ, zero, suc, ◌<◌, ◌≤◌, Bool, true, false, Some, None, List, [], ◌∷◌, map, length, get_or, ⊎_elim, refl, sym, ◌∙◌, arith}
use Rattle.std.proofs.lemmas.Bool.{cases_Bool, eq-eqb, eqb-true, ne_eqb, eqb-false}
use Rattle.std.proofs.lemmas.List.Sorted.{IsPartitionedBy-ltb}
use Rattle.std.specs.List.{insert, remove}
use Rattle.std.specs.List.Sorted.{IsPartitionedBy}
use Rattle.std.specs.Prelude.{nat_eq, nat_lt, if◌then◌else◌, Option, option_map}
use Rattle.rcsp_admission.specs.Index.{place_in, place_after, moved_up, AreByKey, IsKeptAt, IsGapFor}
use Rattle.rcsp_admission.specs.declared.key_index.KeyPlace.{KeyPlace}

-- ---- the order of the keys

key-from : (low : ℕ) (xs : List KeyPlace) (i : ℕ) (d : KeyPlace) → AreByKey low xs → i < length xs → low ≤ (get_or xs i d).key
key-from low [] i d sorted inside = absurd (omega arith)
key-from low (x ∷ xs) zero d sorted inside = sorted.0
key-from low (x ∷ xs) (suc i) d sorted inside = let rest = key-from (suc x.key) xs i d sorted.1 (omega (arith, inside)) in let own = sorted.0 in omega (arith, rest, own)

keys-rise : (low : ℕ) (xs : List KeyPlace) → AreByKey low xs → (i j : ℕ) (d : KeyPlace) → i ≤ j → j < length xs → (get_or xs i d).key ≤ (get_or xs j d).key
keys-rise low [] sorted i j d upto inside = absurd (omega arith)
keys-rise low (x ∷ xs) sorted zero zero d upto inside = omega arith
keys-rise low (x ∷ xs) sorted zero (suc j) d upto inside = let above = key-from (suc x.key) xs j d sorted.1 (omega (arith, inside)) in omega (arith, above)
keys-rise low (x ∷ xs) sorted (suc i) zero d upto inside = absurd (omega (arith, upto))
keys-rise low (x ∷ xs) sorted (suc i) (suc j) d upto inside = keys-rise (suc x.key) xs sorted.1 i j d (omega (arith, upto)) (omega (arith, inside))

pub keys-part : (low key : ℕ) (xs : List KeyPlace) → AreByKey low xs → IsPartitionedBy (λ kept. nat_lt kept.key key) xs
keys-part low key xs sorted = IsPartitionedBy-ltb (λ (kept : KeyPlace). kept.key) xs key (keys-rise low xs sorted)

by-key-lower : (low high : ℕ) (xs : List KeyPlace) → low ≤ high → AreByKey high xs → AreByKey low xs
by-key-lower low high [] lower sorted = tt
by-key-lower low high (x ∷ xs) lower sorted = ((let own = sorted.0 in omega (arith, own, lower)), sorted.1)

pub by-key-removed : (low : ℕ) (xs : List KeyPlace) (i : ℕ) → AreByKey low xs → AreByKey low (remove xs i)
by-key-removed low [] zero sorted = tt
by-key-removed low [] (suc i) sorted = tt
by-key-removed low (x ∷ xs) zero sorted = by-key-lower low (suc x.key) xs (let own = sorted.0 in omega (arith, own)) sorted.1
by-key-removed low (x ∷ xs) (suc i) sorted = (sorted.0, by-key-removed (suc x.key) xs i sorted.1)

gap-later : (key : ℕ) (x : KeyPlace) (xs : List KeyPlace) (i : ℕ) → IsGapFor key (x ∷ xs) (suc i) → IsGapFor key xs i
gap-later key x xs i gap = record {
  within = let w = gap.within in omega (arith, w);
  below = λ k d before. gap.below (suc k) d (omega (arith, before));
  above = λ d inside. gap.above d (omega (arith, inside));
}

pub by-key-inserted : (low : ℕ) (xs : List KeyPlace) (i : ℕ) (new : KeyPlace) → AreByKey low xs → low ≤ new.key → IsGapFor new.key xs i → AreByKey low (insert xs i new)
by-key-inserted low [] zero new sorted from gap = (from, tt)
by-key-inserted low [] (suc i) new sorted from gap = (from, tt)
by-key-inserted low (x ∷ xs) zero new sorted from gap = (from, (gap.above x (omega arith), sorted.1))
by-key-inserted low (x ∷ xs) (suc i) new sorted from gap = (sorted.0, by-key-inserted (suc x.key) xs i new sorted.1 (gap.below 0 x (omega arith)) (gap-later new.key x xs i gap))

pub by-key-moved : (low left : ℕ) (xs : List KeyPlace) → AreByKey low xs → AreByKey low (map (moved_up left) xs)
by-key-moved low left [] sorted = tt
by-key-moved low left (x ∷ xs) sorted = (sorted.0, by-key-moved (suc x.key) left xs sorted.1)

-- ---- the place under a key

higher-none : (low key : ℕ) (xs : List KeyPlace) → key < low → AreByKey low xs → place_in key xs ≡ None
higher-none low key [] below sorted = refl
higher-none low key (x ∷ xs) below sorted =
    let own = sorted.0 in
    rw (ne_eqb x.key key (λ same. absurd (omega (arith, same, below, own)))) (higher-none (suc x.key) key xs (omega (arith, below, own)) sorted.1)

-- there is none where none of the key is kept
pub gap-none : (low key : ℕ) (xs : List KeyPlace) (i : ℕ) → AreByKey low xs → IsGapFor key xs i → place_in key xs ≡ None
gap-none low key [] i sorted gap = refl
gap-none low key (x ∷ xs) zero sorted gap =
    let above = gap.above x (omega arith) in
    rw (ne_eqb x.key key (λ same. absurd (omega (arith, same, above)))) (higher-none (suc x.key) key xs (omega (arith, above)) sorted.1)
gap-none low key (x ∷ xs) (suc i) sorted gap =
    let below = gap.below 0 x (omega arith) in
    rw (ne_eqb x.key key (λ same. absurd (omega (arith, same, below)))) (gap-none (suc x.key) key xs i sorted.1 (gap-later key x xs i gap))

-- else it is the one kept
pub one-at : (low key : ℕ) (xs : List KeyPlace) (i : ℕ) (d : KeyPlace) → AreByKey low xs → i < length xs → (get_or xs i d).key ≡ key → place_in key xs ≡ Some (get_or xs i d).place
one-at low key [] i d sorted inside same = absurd (omega arith)
one-at low key (x ∷ xs) zero d sorted inside same = rw (eq-eqb x.key key same) refl
one-at low key (x ∷ xs) (suc i) d sorted inside same =
    let above = key-from (suc x.key) xs i d sorted.1 (omega (arith, inside)) in
    rw (ne_eqb x.key key (λ own. absurd (omega (arith, own, above, same)))) (one-at (suc x.key) key xs i d sorted.1 (omega (arith, inside)) same)

-- ---- a place more, a place less

-- an index without the key doesn't begin with it
new-first : (key : ℕ) (x : KeyPlace) (xs : List KeyPlace) → place_in key (x ∷ xs) ≡ None → x.key ≡ key → ⊥
new-first key x xs new same = (let e = rw (eq-eqb x.key key same) at new in cc)

new-later : (key : ℕ) (x : KeyPlace) (xs : List KeyPlace) → place_in key (x ∷ xs) ≡ None → place_in key xs ≡ None
new-later key x xs new = rw (ne_eqb x.key key (new-first key x xs new)) at new

pub place-inserted : (other : ℕ) (xs : List KeyPlace) (i : ℕ) (new : KeyPlace) → place_in new.key xs ≡ None → place_in other (insert xs i new) ≡ (if nat_eq new.key other then Some new.place else place_in other xs)
place-inserted other [] zero new none = refl
place-inserted other [] (suc i) new none = refl
place-inserted other (x ∷ xs) zero new none = refl
place-inserted other (x ∷ xs) (suc i) new none =
    ⊎_elim
    (λ (mine : nat_eq x.key other ≡ true).
    let apart = ne_eqb new.key other (λ same. new-first new.key x xs none (eqb-true x.key other mine ∙ sym same)) in
    rw (mine, apart) refl)
    (λ (not : nat_eq x.key other ≡ false). (rw not (place-inserted other xs i new (new-later new.key x xs none))))
    (cases_Bool (nat_eq x.key other))

pub place-removed : (low key other : ℕ) (xs : List KeyPlace) (i : ℕ) → AreByKey low xs → IsKeptAt key xs i → place_in other (remove xs i) ≡ (if nat_eq key other then None else place_in other xs)
place-removed low key other [] i sorted kept = (let inside = kept.inside in absurd (omega (arith, inside)))
place-removed low key other (x ∷ xs) zero sorted kept =
    let own = kept.here x in
    ⊎_elim
    (λ (mine : nat_eq key other ≡ true). (rw mine (higher-none (suc x.key) other xs (let same = eqb-true key other mine in omega (arith, own, same)) sorted.1)))
    (λ (not : nat_eq key other ≡ false).
    let apart = ne_eqb x.key other (λ same. eqb-false key other not (sym own ∙ same)) in
    rw (not, apart) refl)
    (cases_Bool (nat_eq key other))
place-removed low key other (x ∷ xs) (suc i) sorted kept =
    let inside = kept.inside in
    let own = kept.here x in
    let above = key-from (suc x.key) xs i x sorted.1 (omega (arith, inside)) in
    let rest = place-removed (suc x.key) key other xs i sorted.1 (record { inside = omega (arith, inside); here = kept.here }) in
    ⊎_elim
    (λ (mine : nat_eq x.key other ≡ true).
    let apart = ne_eqb key other (λ same. absurd (let at = eqb-true x.key other mine in omega (arith, own, above, same, at))) in
    rw (mine, apart) refl)
    (λ (not : nat_eq x.key other ≡ false). (rw not rest))
    (cases_Bool (nat_eq x.key other))

pub place-moved : (key left : ℕ) (xs : List KeyPlace) → place_in key (map (moved_up left) xs) ≡ option_map (place_after left) (place_in key xs)
place-moved key left [] = refl
place-moved key left (x ∷ xs) =
    ⊎_elim (λ (mine : nat_eq x.key key ≡ true). (rw mine refl)) (λ (not : nat_eq x.key key ≡ false). (rw not (place-moved key left xs))) (cases_Bool (nat_eq x.key key))

pub option-left : (b : Bool) (f : ℕ → ℕ) (place : Option ℕ) → option_map f (if b then None else place) ≡ (if b then None else option_map f place)
option-left true f place = refl
option-left false f place = refl
