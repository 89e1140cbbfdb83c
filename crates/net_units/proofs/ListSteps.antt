-- Lists that are made an element at a time out of another list's elements.
use Rattle.std.proofs.Common.{◌≡◌, ℕ, ◌+◌, ◌<◌, ◌≤◌, List, [], ◌∷◌, ◌++◌, length, get_or, take, map, sym, ap, ◌∙◌}
use Rattle.std.proofs.lemmas.List.{take_all, take_more, map-append}

-- one more of a list
pub taken-more : {X : Type 0} (xs : List X) (i : ℕ) (x : X) → i < length xs → x ≡ get_or xs i x → take i xs ++ x ∷ [] ≡ take (i + 1) xs
taken-more xs i x within is = ap (λ z. take i xs ++ z ∷ []) is ∙ sym (take_more xs i x within)

-- the elements themselves
pub copied-more : {X : Type 0} (xs : List X) (i : ℕ) (x : X) (y : X) (ys : List X) → i < length xs → x ≡ get_or xs i x → ys ≡ take i xs → y ≡ x → ys ++ y ∷ [] ≡ take (i + 1) xs
copied-more xs i x y ys within is so_far one = ap (λ zs. zs ++ y ∷ []) so_far ∙ ap (λ z. take i xs ++ z ∷ []) one ∙ taken-more xs i x within is

pub copied-all : {X : Type 0} (xs : List X) (i : ℕ) (ys : List X) → length xs ≤ i → ys ≡ take i xs → ys ≡ xs
copied-all xs i ys past so_far = so_far ∙ take_all i xs past

-- the images of the elements
pub mapped-more : {X Y : Type 0} (f : X → Y) (xs : List X) (i : ℕ) (x : X) (y : Y) (ys : List Y) → i < length xs → x ≡ get_or xs i x → ys ≡ map f (take i xs) → y ≡ f x → ys ++ y ∷ [] ≡ map f (take (i + 1) xs)
mapped-more f xs i x y ys within is so_far one =
    ap (λ zs. zs ++ y ∷ []) so_far ∙ ap (λ z. map f (take i xs) ++ z ∷ []) one ∙ sym (map-append f (take i xs) (x ∷ [])) ∙ ap (map f) (taken-more xs i x within is)

pub mapped-all : {X Y : Type 0} (f : X → Y) (xs : List X) (i : ℕ) (ys : List Y) → length xs ≤ i → ys ≡ map f (take i xs) → ys ≡ map f xs
mapped-all f xs i ys past so_far = so_far ∙ ap (map f) (take_all i xs past)
