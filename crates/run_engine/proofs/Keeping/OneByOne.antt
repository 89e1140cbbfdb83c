-- What a plan's network is opened with, one more element at a time.
use Rattle.std.proofs.Common.{◌≡◌, ℕ, ◌+◌, ◌<◌, List, [], ◌∷◌, ◌++◌, map, take, get_or, length, sym, ap, ◌∙◌, add-one}
use Rattle.std.proofs.lemmas.List.{map-append}
use Rattle.std.proofs.Math.Seq.{take-suc}

-- one element more, made of the entry at its place
pub taken-more : {X Z : Type 0} (g : X → Z) (entries : List X) (made : List Z) (i : ℕ) (x : X) → i < length entries → x ≡ get_or entries i x → made ≡ map g (take i entries) → made ++ g x ∷ [] ≡ map g (take (i + 1) entries)
taken-more g entries made i x inside is so_far =
    (λ j. so_far j ++ g x ∷ []) ∙ ap (λ z. map g (take i entries) ++ g z ∷ []) is
    ∙ sym (map-append g (take i entries) (get_or entries i x ∷ [])) ∙ ap (map g) (sym (take-suc entries i x inside)) ∙ ap (λ n. map g (take n entries)) (sym (add-one i))

-- and seen so
pub mapped-more : {X Y Z : Type 0} (f : Y → Z) (g : X → Z) (entries : List X) (made : List Y) (i : ℕ) (x : X) (y : Y) → i < length entries → x ≡ get_or entries i x → map f made ≡ map g (take i entries) → f y ≡ g x → map f (made ++ y ∷ []) ≡ map g (take (i + 1) entries)
mapped-more f g entries made i x y inside is so_far same =
    map-append f made (y ∷ []) ∙ ap (λ z. map f made ++ z ∷ []) same ∙ taken-more g entries (map f made) i x inside is so_far
