-- Facts on lists: what stands in a list that is reversed or mapped, and what a look-up by number answers.
use Rattle.std.proofs.Common.{◌≡◌, ℕ, suc, List, [], ◌∷◌, map, reverse, Some, None, refl, sym, ap, ◌∙◌, inl, inr, true, false, get_or, length}
use Rattle.std.proofs.lemmas.Bool.{ltb-true, ltb-false}
use Rattle.std.proofs.lemmas.Option.{slice_get_read, slice_get_past}
use Rattle.std.specs.Prelude.{nat_lt}
use Rattle.std.specs.List.{slice_get}
use Rattle.link_steps.specs.Lists.{Among}
use Rattle.link_steps.proofs.ListParts.{Among-turned, Among-reverse, Among-at, mapped-at}

-- ---- through a map

-- the element that stands at a place, or in the list
pub record Comes {X Y : Type 0} (f : X → Y) (xs : List X) (y : Y) : Type 0 where
  pub place : ℕ
  pub from : X
  pub found : slice_get xs place ≡ Some from
  pub is : y ≡ f from

pub among-map : {X Y : Type 0} (f : X → Y) (xs : List X) (y : Y) → Among y (map f xs) → Comes f xs y
among-map f [] y among = absurd among
among-map f (x ∷ xs) y (inl same) = record { place = 0; from = x; found = refl; is = same }
among-map f (x ∷ xs) y (inr among) = (let it = among-map f xs y among in record { place = suc it.place; from = it.from; found = it.found; is = it.is })

pub among-turned_map : {X Y : Type 0} (f : X → Y) (xs : List X) (y : Y) → Among y (reverse (map f xs)) → Comes f xs y
among-turned_map f xs y among = among-map f xs y (Among-reverse y (map f xs) among)

pub turned_map-among : {X Y : Type 0} (f : X → Y) (xs : List X) (k : ℕ) (x : X) → slice_get xs k ≡ Some x → Among (f x) (reverse (map f xs))
turned_map-among f xs k x found = Among-turned (f x) (map f xs) (Among-at (map f xs) k (f x) (mapped-at f xs k x found))

-- ---- what a look-up answers

pub there : {X : Type 0} (xs ys : List X) (n i : ℕ) (x : X) → true ≡ nat_lt n (length xs) → x ≡ get_or xs n x → xs ≡ ys → n ≡ i → slice_get ys i ≡ Some x
there xs ys n i x inside is same number =
    ap (slice_get ys) (sym number) ∙ ap (λ l. slice_get l n) (sym same) ∙ slice_get_read xs (length xs) n x refl (ltb-true n (length xs) (sym inside)) is

pub missing : {X : Type 0} (xs ys : List X) (n i : ℕ) → false ≡ nat_lt n (length xs) → xs ≡ ys → n ≡ i → slice_get ys i ≡ None
missing xs ys n i past same number =
    ap (slice_get ys) (sym number) ∙ ap (λ l. slice_get l n) (sym same) ∙ slice_get_past xs n (ltb-false n (length xs) (sym past))
