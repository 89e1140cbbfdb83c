-- Scales are tried in their order, and those that were tried before the first that serves don't serve.
use Rattle.std.proofs.Common.{◌≡◌, ℕ, suc, zero, ◌+◌, ◌<◌, ◌≤◌, true, false, Bool, List, [], ◌∷◌, ◌++◌, length, get_or, map, take, drop, sym, ap, subst, arith}
use Rattle.std.proofs.lemmas.List.{take_all}
use Rattle.std.specs.List.{list_any}
use Rattle.field_units.specs.Serving.{Pair, pair_of}
use Rattle.field_units.specs.declared.scale.Scale.{Scale}
use Rattle.design_scale.specs.Serving.{IsCoarsest}

-- all were tried
pub none-at-all : (serve : Pair → Bool) (scales : List Scale) (i : ℕ) → length scales ≤ i → list_any serve (map pair_of (take i scales)) ≡ false → list_any serve (map pair_of scales) ≡ false
none-at-all serve scales i past none = subst (λ (tried : List Scale). list_any serve (map pair_of tried) ≡ false) (take_all i scales past) none

-- the scales before one, that one, and those after it
split-at : (scales : List Scale) (i : ℕ) (scale : Scale) → i < length scales → scale ≡ get_or scales i scale
    → map pair_of scales ≡ map pair_of (take i scales) ++ pair_of scale ∷ map pair_of (drop (i + 1) scales)
split-at [] i scale within is = absurd (omega (arith, within))
split-at (first ∷ scales) zero scale within is = ap (λ (one : Scale). pair_of one ∷ map pair_of scales) (sym is)
split-at (first ∷ scales) (suc i) scale within is =
    let e : suc i + 1 ≡ suc (i + 1) = omega arith in
    rw e (ap (λ (rest : List Pair). pair_of first ∷ rest) (split-at scales i scale (omega (arith, within)) is))

-- the first that serves is the coarsest that does
pub first-serves : (serve : Pair → Bool) (scales : List Scale) (i : ℕ) (scale : Scale) → i < length scales → scale ≡ get_or scales i scale → serve (pair_of scale) ≡ true
    → list_any serve (map pair_of (take i scales)) ≡ false → IsCoarsest serve (map pair_of scales) (pair_of scale)
first-serves serve scales i scale within is good before = record {
  coarser = map pair_of (take i scales);
  finer = map pair_of (drop (i + 1) scales);
  order = split-at scales i scale within is;
  serves = good;
  none = before;
}
