-- The pairs of all ticks are those of each tick, one after another, and no tick that is tried is 0.
use Rattle.std.proofs.Common.{◌≡◌, ℕ, suc, zero, ◌+◌, ◌<◌, ◌≤◌, true, List, [], ◌∷◌, ◌++◌, length, drop, get_or, nat_le, refl, sym, ap, ◌∙◌, arith}
use Rattle.std.proofs.lemmas.List.{append_assoc, append-nil}
use Rattle.std.specs.List.{list_all}
use Rattle.field_units.specs.Serving.{Pair, pairs_at, pairs_of}

-- the pairs of the ticks that are left are those of the next one and of the rest
pairs-left : (ticks units : List ℕ) (i : ℕ) → i < length ticks → pairs_of (drop i ticks) units ≡ pairs_at (get_or ticks i 0) units ++ pairs_of (drop (i + 1) ticks) units
unfolding pairs_of
pairs-left [] units i within = absurd (omega (arith, within))
pairs-left (tick ∷ ticks) units zero within = refl
pairs-left (tick ∷ ticks) units (suc i) within =
    let e : suc i + 1 ≡ suc (i + 1) = omega arith in
    rw e (pairs-left ticks units i (omega (arith, within)))

-- so with those of the next tick made, the rest is left
pub pairs-more : (made all : List Pair) (ticks units : List ℕ) (i : ℕ) → i < length ticks → made ++ pairs_of (drop i ticks) units ≡ all
    → (made ++ pairs_at (get_or ticks i 0) units) ++ pairs_of (drop (i + 1) ticks) units ≡ all
pairs-more made all ticks units i within e =
    append_assoc made (pairs_at (get_or ticks i 0) units) (pairs_of (drop (i + 1) ticks) units)
    ∙ ap (λ (rest : List Pair). made ++ rest) (sym (pairs-left ticks units i within)) ∙ e

-- with no tick left, all are made
no-pairs : (ticks units : List ℕ) (i : ℕ) → length ticks ≤ i → pairs_of (drop i ticks) units ≡ []
unfolding pairs_of
no-pairs [] units zero past = refl
no-pairs [] units (suc i) past = refl
no-pairs (tick ∷ ticks) units zero past = absurd (omega (arith, past))
no-pairs (tick ∷ ticks) units (suc i) past = no-pairs ticks units i (omega (arith, past))

pub pairs-all : (made all : List Pair) (ticks units : List ℕ) (i : ℕ) → length ticks ≤ i → made ++ pairs_of (drop i ticks) units ≡ all → made ≡ all
pairs-all made all ticks units i past e = sym (append-nil made) ∙ ap (λ (rest : List Pair). made ++ rest) (sym (no-pairs ticks units i past)) ∙ e

-- a number of a list of which none is 0
pub some-at : (ticks : List ℕ) (i : ℕ) → list_all (λ tick. nat_le 1 tick) ticks ≡ true → i < length ticks → 1 ≤ get_or ticks i 0
some-at [] i all within = absurd (omega (arith, within))
some-at (tick ∷ ticks) zero all within = grind (arith, all)
some-at (tick ∷ ticks) (suc i) all within = some-at ticks i (grind (arith, all)) (omega (arith, within))
