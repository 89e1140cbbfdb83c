-- Facts on lists: what holds of each element of a list's parts, of the list turned round, at each place and in another order; what
-- stands at a place of a list seen through a map; and what stands in two lists put together, in a list turned round and at a place.
use Rattle.std.proofs.Common.{◌≡◌, ◌⊎◌, ℕ, zero, suc, ◌<◌, length, get_or, arith, List, [], ◌∷◌, ◌++◌, map, reverse, Some, None, inl, inr, ⊎_elim, refl, sym, ap, ◌∙◌, subst}
use Rattle.std.proofs.lemmas.List.{reverse-append, reverse-reverse}
use Rattle.std.proofs.lemmas.List.Sorted.{All-permutation}
use Rattle.std.proofs.lemmas.Option.{same_Some, slice_get-map}
use Rattle.std.specs.List.{All, slice_get}
use Rattle.std.specs.List.Sorted.{IsPermutation}
use Rattle.std.specs.Option.{option_map}
use Rattle.link_steps.specs.Lists.{Each, Among}
use Rattle.link_steps.proofs.SearchAndFilter.{Each-append}

-- ---- a fact of each element

-- of both parts of a list
pub Each-parts : {X : Type 0} (P : X → Type 0) (xs ys : List X) → Each P (xs ++ ys) → Each P xs × Each P ys
Each-parts P [] ys each = (tt, each)
Each-parts P (x ∷ xs) ys each = (let rest = Each-parts P xs ys each.1 in ((each.0, rest.0), rest.1))

-- of an element more
pub Each-push : {X : Type 0} (P : X → Type 0) (xs : List X) (x : X) → Each P xs → P x → Each P (xs ++ x ∷ [])
Each-push P xs x each one = Each-append P xs (x ∷ []) each (one, tt)

pub Each-reverse : {X : Type 0} (P : X → Type 0) (xs : List X) → Each P xs → Each P (reverse xs)
Each-reverse P [] each = tt
Each-reverse P (x ∷ xs) each = subst (Each P) (sym (reverse-append (x ∷ []) xs)) (Each-append P (reverse xs) (x ∷ []) (Each-reverse P xs each.1) (each.0, tt))

-- of the element at a place; and what holds at every place holds of each
pub Each-at : {X : Type 0} (P : X → Type 0) (xs : List X) (i : ℕ) (x : X) → Each P xs → slice_get xs i ≡ Some x → P x
Each-at P [] i x each found = absurd (let clash : None ≡ Some x = found in cc)
Each-at P (y ∷ xs) zero x each found = subst P (same_Some y x found) each.0
Each-at P (y ∷ xs) (suc i) x each found = Each-at P xs i x each.1 found

pub Each-by_place : {X : Type 0} (P : X → Type 0) (xs : List X) → ((i : ℕ) (x : X) → slice_get xs i ≡ Some x → P x) → Each P xs
Each-by_place P [] all = tt
Each-by_place P (x ∷ xs) all = (all 0 x refl, Each-by_place P xs (λ i y found. all (suc i) y found))

-- an element stands at each place
pub stands-at : {X : Type 0} (xs : List X) (i : ℕ) → i < length xs → (x : X) × (slice_get xs i ≡ Some x)
stands-at [] i inside = absurd (omega arith)
stands-at (x ∷ xs) zero inside = (x, refl)
stands-at (x ∷ xs) (suc i) inside = stands-at xs i (omega arith)

-- ---- the element at an index, where one that is past the end is made up

pub Each-at_index : {X : Type 0} (P : X → Type 0) (xs : List X) → Each P xs → (k : ℕ) (d : X) → k < length xs → P (get_or xs k d)
Each-at_index P [] each k d inside = absurd (omega (arith, inside))
Each-at_index P (x ∷ xs) each zero d inside = each.0
Each-at_index P (x ∷ xs) each (suc k) d inside = Each-at_index P xs each.1 k d (omega (arith, inside))

pub Each-by_index : {X : Type 0} (P : X → Type 0) (xs : List X) → ((k : ℕ) (d : X) → k < length xs → P (get_or xs k d)) → Each P xs
Each-by_index P [] all = tt
Each-by_index P (x ∷ xs) all = (all 0 x (omega arith), Each-by_index P xs (λ k d inside. all (suc k) d (omega (arith, inside))))

-- so it is another way to say `All`
pub Each-from_All : {X : Type 0} (P : X → Type 0) (xs : List X) → All P xs → Each P xs
Each-from_All P xs all = Each-by_index P xs (λ k d inside. all k d inside)

pub All-from_Each : {X : Type 0} (P : X → Type 0) (xs : List X) → Each P xs → All P xs
All-from_Each P xs each = Each-at_index P xs each

-- ---- the same elements in another order

pub Each-permuted : {X : Type 0} (P : X → Type 0) (xs ys : List X) → IsPermutation xs ys → Each P xs → Each P ys
Each-permuted P xs ys moved each = Each-from_All P ys (All-permutation P xs ys moved (All-from_Each P xs each))

-- ---- a list seen through a map

-- the image of the element at a place stands there
pub mapped-at : {X Y : Type 0} (f : X → Y) (xs : List X) (i : ℕ) (x : X) → slice_get xs i ≡ Some x → slice_get (map f xs) i ≡ Some (f x)
mapped-at f xs i x found = slice_get-map f xs i ∙ ap (option_map f) found

-- what stands at a place of the images is the image of what stands there
pub record ComesFrom {X Y : Type 0} (f : X → Y) (xs : List X) (i : ℕ) (y : Y) : Type 0 where
  pub from : X
  pub found : slice_get xs i ≡ Some from
  pub is : f from ≡ y

pub comes-from : {X Y : Type 0} (f : X → Y) (xs : List X) (i : ℕ) (y : Y) → slice_get (map f xs) i ≡ Some y → ComesFrom f xs i y
comes-from f [] i y found = absurd (let clash : None ≡ Some y = found in cc)
comes-from f (x ∷ xs) zero y found = record { from = x; found = refl; is = same_Some (f x) y found }
comes-from f (x ∷ xs) (suc i) y found = (let rest = comes-from f xs i y found in record { from = rest.from; found = rest.found; is = rest.is })

-- ---- membership

-- an element of either part is one of the whole
pub Among-left : {X : Type 0} (x : X) (xs ys : List X) → Among x xs → Among x (xs ++ ys)
Among-left x [] ys among = absurd among
Among-left x (y ∷ xs) ys (inl same) = inl same
Among-left x (y ∷ xs) ys (inr among) = inr (Among-left x xs ys among)

pub Among-right : {X : Type 0} (x : X) (xs ys : List X) → Among x ys → Among x (xs ++ ys)
Among-right x [] ys among = among
Among-right x (y ∷ xs) ys among = inr (Among-right x xs ys among)

-- and one of the whole is one of a part
pub Among-parts : {X : Type 0} (x : X) (xs ys : List X) → Among x (xs ++ ys) → Among x xs ⊎ Among x ys
Among-parts x [] ys among = inr among
Among-parts x (y ∷ xs) ys (inl same) = inl (inl same)
Among-parts x (y ∷ xs) ys (inr among) = elim (Among-parts x xs ys among) [ inl there ↦ inl (inr there) | inr there ↦ inr there ]

pub Among-map : {X Y : Type 0} (f : X → Y) (x : X) (xs : List X) → Among x xs → Among (f x) (map f xs)
Among-map f x [] among = absurd among
Among-map f x (y ∷ ys) (inl same) = inl (ap f same)
Among-map f x (y ∷ ys) (inr among) = inr (Among-map f x ys among)

-- the element at a place is one of the list
pub Among-at : {X : Type 0} (xs : List X) (i : ℕ) (x : X) → slice_get xs i ≡ Some x → Among x xs
Among-at [] i x found = absurd (let clash : None ≡ Some x = found in cc)
Among-at (y ∷ xs) zero x found = inl (sym (same_Some y x found))
Among-at (y ∷ xs) (suc i) x found = inr (Among-at xs i x found)

Among-last : {X : Type 0} (x y : X) (xs : List X) → Among x (xs ++ y ∷ []) → Among x (y ∷ xs)
Among-last x y [] (inl same) = inl same
Among-last x y [] (inr none) = absurd none
Among-last x y (z ∷ zs) (inl same) = inr (inl same)
Among-last x y (z ∷ zs) (inr among) = ⊎_elim (λ (last : x ≡ y). inl last) (λ (front : Among x zs). inr (inr front)) (Among-last x y zs among)

-- an element of a list turned round is one of the list, and one of the list is one of it turned round
pub Among-reverse : {X : Type 0} (x : X) (xs : List X) → Among x (reverse xs) → Among x xs
Among-reverse x [] among = absurd among
Among-reverse x (y ∷ ys) among =
    ⊎_elim (λ (last : x ≡ y). inl last) (λ (front : Among x (reverse ys)). inr (Among-reverse x ys front))
    (Among-last x y (reverse ys) (subst (Among x) (reverse-append (y ∷ []) ys) among))

pub Among-turned : {X : Type 0} (x : X) (xs : List X) → Among x xs → Among x (reverse xs)
Among-turned x xs among = Among-reverse x (reverse xs) (subst (Among x) (sym (reverse-reverse xs)) among)
