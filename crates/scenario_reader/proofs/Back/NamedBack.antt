-- What has a name is found by it, where no two have one name.
use Rattle.std.proofs.Common.{◌≡◌, ℕ, suc, zero, true, false, List, [], ◌∷◌, ◌++◌, length, map, Some, refl, sym, ◌∙◌, ap, subst, arith}
use Rattle.std.specs.Prelude.{◌||◌, find, position}
use Rattle.std.proofs.lemmas.Bool.{and_parts, or_parts, not-true, lt-ltb}
use Rattle.std.proofs.lemmas.List.{length-map}
use Rattle.std.proofs.lemmas.List.Folds.{list_any-append}
use Rattle.std.proofs.lemmas.Option.{same_Some, slice_get_within}
use Rattle.std.proofs.lemmas.Slice.Eq.{bytes_eq-Decides}
use Rattle.std.specs.List.{slice_get, list_any, position_or_len}
use Rattle.call_script.specs.Rules.{each_after, is_named, is_new}

-- the name of a later one is none above it
new-at : {X : Type 0} (name_of : X → List ℕ) (above : List (List ℕ)) (xs : List X) (k : ℕ) (x : X) → each_after is_new above (map name_of xs) ≡ true → slice_get xs k ≡ Some x → list_any (is_named (name_of x)) above ≡ false
unfolding each_after
new-at name_of above [] k x each found = cc
new-at name_of above (y ∷ ys) zero x each found =
    let here = not-true (list_any (is_named (name_of y)) above) (and_parts (is_new above (name_of y)) (each_after is_new (above ++ name_of y ∷ []) (map name_of ys)) each).0 in
    subst (λ z. list_any (is_named (name_of z)) above ≡ false) (same_Some y x found) here
new-at name_of above (y ∷ ys) (suc k) x each found =
    let rest = new-at name_of (above ++ name_of y ∷ []) ys k x (and_parts (is_new above (name_of y)) (each_after is_new (above ++ name_of y ∷ []) (map name_of ys)) each).1 found in
    (or_parts (list_any (is_named (name_of x)) above) (is_named (name_of x) (name_of y) || false) (sym (list_any-append (is_named (name_of x)) above (name_of y ∷ [])) ∙ rest)).0

-- so one before it has another name
other-name : {X : Type 0} (name_of : X → List ℕ) (above : List (List ℕ)) (y : X) (ys : List X) (k : ℕ) (x : X) → each_after is_new above (map name_of (y ∷ ys)) ≡ true → slice_get ys k ≡ Some x → is_named (name_of x) (name_of y) ≡ false
unfolding each_after
other-name name_of above y ys k x each found =
    let rest = new-at name_of (above ++ name_of y ∷ []) ys k x (and_parts (is_new above (name_of y)) (each_after is_new (above ++ name_of y ∷ []) (map name_of ys)) each).1 found in
    let last = (or_parts (list_any (is_named (name_of x)) above) (is_named (name_of x) (name_of y) || false) (sym (list_any-append (is_named (name_of x)) above (name_of y ∷ [])) ∙ rest)).1 in
    (or_parts (is_named (name_of x) (name_of y)) false last).0

pub find-back : {X : Type 0} (name_of : X → List ℕ) (above : List (List ℕ)) (xs : List X) (k : ℕ) (x : X) → each_after is_new above (map name_of xs) ≡ true → slice_get xs k ≡ Some x → find (λ y. is_named (name_of x) (name_of y)) xs ≡ Some x
unfolding each_after
find-back name_of above [] k x each found = cc
find-back name_of above (y ∷ ys) zero x each found =
    let same = same_Some y x found in
    let named : is_named (name_of x) (name_of y) ≡ true = (bytes_eq-Decides (name_of y) (name_of x)).1 (ap name_of same) in
    rw named (ap Some same)
find-back name_of above (y ∷ ys) (suc k) x each found =
    rw (other-name name_of above y ys k x each found) (find-back name_of (above ++ name_of y ∷ []) ys k x (and_parts (is_new above (name_of y)) (each_after is_new (above ++ name_of y ∷ []) (map name_of ys)) each).1 found)

place-back : {X : Type 0} (name_of : X → List ℕ) (above : List (List ℕ)) (xs : List X) (k : ℕ) (x : X) → each_after is_new above (map name_of xs) ≡ true → slice_get xs k ≡ Some x → position_or_len (is_named (name_of x)) (map name_of xs) ≡ k
unfolding each_after
place-back name_of above [] k x each found = cc
place-back name_of above (y ∷ ys) zero x each found =
    let named : is_named (name_of x) (name_of y) ≡ true = (bytes_eq-Decides (name_of y) (name_of x)).1 (ap name_of (same_Some y x found)) in
    rw named refl
place-back name_of above (y ∷ ys) (suc k) x each found =
    let rest = place-back name_of (above ++ name_of y ∷ []) ys k x (and_parts (is_new above (name_of y)) (each_after is_new (above ++ name_of y ∷ []) (map name_of ys)) each).1 found in
    rw (other-name name_of above y ys k x each found) (omega (arith, rest))

pub position-back : {X : Type 0} (name_of : X → List ℕ) (xs : List X) (k : ℕ) (x : X) → each_after is_new [] (map name_of xs) ≡ true → slice_get xs k ≡ Some x → position (is_named (name_of x)) (map name_of xs) ≡ Some k
position-back name_of xs k x each found =
    let place = place-back name_of [] xs k x each found in
    let within = slice_get_within xs k x found in
    rw (place, lt-ltb k (length (map name_of xs)) (omega (arith, within, length-map xs name_of))) refl
