-- The promises of the requests so far, and the bound of the last hop that has a level.
use Rattle.std.proofs.Common.{◌≡◌, ℕ, ◌+◌, ◌<◌, List, [], ◌∷◌, ◌++◌, length, take, get_or, refl, sym, ap, ◌∙◌, arith, append-nil}
use Rattle.std.proofs.lemmas.Grind.{flat_map-append}
use Rattle.std.proofs.lemmas.List.{take_more}
use Rattle.std.specs.List.{flat_map}
use Rattle.hop_reservation.specs.declared.route.Hop.{Hop}
use Rattle.relaxation.specs.Allotment.{bound_at_end}

pub front-more : {X Y : Type 0} (f : X → List Y) (xs : List X) (i : ℕ) (x : X) → i < length xs → x ≡ get_or xs i x → flat_map f (take (i + 1) xs) ≡ flat_map f (take i xs) ++ f x
front-more f xs i x inside is =
    ap (flat_map f) (take_more xs i x inside ∙ ap (λ y. take i xs ++ y ∷ []) (sym is))
    ∙ (flat_map-append f (take i xs) (x ∷ []) ∙ ap (λ rest. flat_map f (take i xs) ++ rest) (append-nil (f x)))

pub none-at_end : (route : List Hop) (levels : List ℕ) → length levels ≡ 0 → 0 ≡ bound_at_end route levels
unfolding bound_at_end
none-at_end [] levels none = refl
none-at_end (hop ∷ hops) [] none = refl
none-at_end (hop ∷ hops) (level ∷ levels) none = absurd (omega (arith, none))

pub long-at_end : (route : List Hop) (levels : List ℕ) → length route < length levels → 0 ≡ bound_at_end route levels
unfolding bound_at_end
long-at_end [] levels long = refl
long-at_end (hop ∷ hops) [] long = refl
long-at_end (hop ∷ hops) (level ∷ []) long = absurd (omega (arith, long))
long-at_end (hop ∷ hops) (level ∷ next ∷ levels) long = long-at_end hops (next ∷ levels) (omega (arith, long))
