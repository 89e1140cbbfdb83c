-- Lists that are made an element at a time out of another list's elements.
use Rattle.std.proofs.Common.{◌≡◌, ℕ, ◌+◌, ◌<◌, ◌≤◌, List, [], ◌∷◌, ◌++◌, length, get_or, take, subst}
use Rattle.std.proofs.lemmas.List.{take_all}
use Rattle.std.proofs.lemmas.Slice.Zip.{all_zipped_more}
use Rattle.std.specs.List.{AllZip}
use Rattle.net_units.proofs.ListSteps.{taken-more}

-- one more of each
pub zipped-more : {X Y : Type 0} (R : X → Y → Type 0) (xs : List X) (ys : List Y) (i : ℕ) (x : X) (y : Y) → i < length xs → x ≡ get_or xs i x → AllZip R (take i xs) ys → R x y → AllZip R (take (i + 1) xs) (ys ++ y ∷ [])
zipped-more R xs ys i x y within is so_far one = subst (λ l. AllZip R l (ys ++ y ∷ [])) (taken-more xs i x within is) (all_zipped_more R (take i xs) ys x y so_far one)

-- and at the end all of the first
pub zipped-all : {X Y : Type 0} (R : X → Y → Type 0) (xs : List X) (ys : List Y) (i : ℕ) → length xs ≤ i → AllZip R (take i xs) ys → AllZip R xs ys
zipped-all R xs ys i past so_far = subst (λ l. AllZip R l ys) (take_all i xs past) so_far
