-- Facts on any list: what stands at each place after one was written, and in a list of two; the first element and the rest of equal
-- lists; how many pass a filter; and the images of a list turned round.
use Rattle.std.proofs.Common.{◌≡◌, ◌≢◌, ℕ, zero, suc, ◌≤◌, Bool, Some, List, [], ◌∷◌, ◌++◌, length, set, map, reverse, refl, sym, ap, ◌∙◌, subst, arith}
use Rattle.std.proofs.lemmas.Bool.{cond_both}
use Rattle.std.proofs.lemmas.List.{map-append, reverse-append}
use Rattle.std.proofs.lemmas.Option.{same_Some}
use Rattle.std.specs.List.{filter, slice_get}

pub get-set-same : {X : Type 0} (xs : List X) (i : ℕ) (x y : X) → slice_get (set xs i x) i ≡ Some y → y ≡ x
get-set-same [] i x y is = cc
get-set-same (z ∷ zs) zero x y is = sym (same_Some x y is)
get-set-same (z ∷ zs) (suc i) x y is = get-set-same zs i x y is

pub get-set-other : {X : Type 0} (xs : List X) (i n : ℕ) (x : X) → n ≢ i → slice_get (set xs i x) n ≡ slice_get xs n
get-set-other [] i n x other = refl
get-set-other (z ∷ zs) zero zero x other = absurd (other refl)
get-set-other (z ∷ zs) zero (suc n) x other = refl
get-set-other (z ∷ zs) (suc i) zero x other = refl
get-set-other (z ∷ zs) (suc i) (suc n) x other = get-set-other zs i n x (λ same. other (ap suc same))

-- what each of two elements has
pub both-of : {X : Type 0} (P : ℕ → X → Type 0) (x y : X) → P 0 x → P 1 y → (n : ℕ) (z : X) → slice_get (x ∷ y ∷ []) n ≡ Some z → P n z
both-of P x y own other zero z found = subst (P 0) (same_Some x z found) own
both-of P x y own other (suc zero) z found = subst (P 1) (same_Some y z found) other
both-of P x y own other (suc (suc n)) z found = cc

pub head-same : {X : Type 0} (x : X) (xs : List X) (y : X) (ys : List X) → x ∷ xs ≡ y ∷ ys → x ≡ y
head-same x xs y ys same = cc

pub tail-same : {X : Type 0} (x : X) (xs : List X) (y : X) (ys : List X) → x ∷ xs ≡ y ∷ ys → xs ≡ ys
tail-same x xs y ys same = cc

-- no more pass than there are
pub length-passed : {X : Type 0} (test : X → Bool) (xs : List X) → length (filter test xs) ≤ length xs
length-passed test [] = omega arith
length-passed test (x ∷ xs) =
    let rest = length-passed test xs in
    cond_both (test x) (x ∷ filter test xs) (filter test xs) (λ l. length l ≤ suc (length xs)) (λ _. omega (arith, rest)) (λ _. omega (arith, rest))

pub map-reverse : {X Y : Type 0} (f : X → Y) (xs : List X) → map f (reverse xs) ≡ reverse (map f xs)
map-reverse f [] = refl
map-reverse f (x ∷ xs) =
    ap (map f) (reverse-append (x ∷ []) xs) ∙ map-append f (reverse xs) (x ∷ []) ∙ ap (λ ys. ys ++ f x ∷ []) (map-reverse f xs) ∙ sym (reverse-append (f x ∷ []) (map f xs))
