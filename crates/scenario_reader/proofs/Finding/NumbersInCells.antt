-- Numbers that stand in cells, one after another, before what the cells held; and values of numbers, with one more.
use Rattle.std.proofs.Common.{◌≡◌, ℕ, zero, suc, ◌+◌, ◌<◌, List, [], ◌∷◌, ◌++◌, length, map, take, drop, set, get_or, sym, ap, ap₂, ◌∙◌, arith, add-one}
use Rattle.std.proofs.lemmas.List.{length-map, take_all}
use Rattle.line_forms.specs.Values.{number_in}
use Rattle.line_forms.specs.declared.value.FieldValue.{FieldValue}
use Rattle.line_forms.specs.declared.value.FieldValue.TheVariants as value
use Rattle.scenario_reader.specs.line.Link.{bound_values}

-- the cells with one number more before the zeros
set-filled : (run : List FieldValue) (zeros : List ℕ) (place number : ℕ) (other : FieldValue) → place < length run → place < length zeros → number ≡ number_in (get_or run place other)
    → set (map number_in (take place run) ++ drop place zeros) place number ≡ map number_in (take (suc place) run) ++ drop (suc place) zeros
set-filled [] zeros place number other h k v = absurd (omega (arith, h))
set-filled (f ∷ run) [] place number other h k v = absurd (omega (arith, k))
set-filled (f ∷ run) (z ∷ zeros) zero number other h k v = ap (λ (n : ℕ). n ∷ zeros) v
set-filled (f ∷ run) (z ∷ zeros) (suc place) number other h k v = ap (λ (ns : List ℕ). number_in f ∷ ns) (set-filled run zeros place number other (omega (arith, h)) (omega (arith, k)) v)

pub cells-filled : (cells : List ℕ) (run : List FieldValue) (zeros : List ℕ) (place number : ℕ) (other : FieldValue) → place < length run → place < length zeros → cells ≡ map number_in (take place run) ++ drop place zeros → number ≡ number_in (get_or run place other)
    → set cells place number ≡ map number_in (take (place + 1) run) ++ drop (place + 1) zeros
cells-filled cells run zeros place number other h k e v =
    ap (λ (ns : List ℕ). set ns place number) e ∙ set-filled run zeros place number other h k v
    ∙ ap (λ (n : ℕ). map number_in (take n run) ++ drop n zeros) (let next : suc place ≡ place + 1 = omega arith in next)

-- all of them
pub all-filled : (run : List FieldValue) (zeros : List ℕ) (place : ℕ) → place ≡ length run → map number_in (take place run) ++ drop place zeros ≡ map number_in run ++ drop (length (map number_in run)) zeros
all-filled run zeros place same =
    ap (λ (n : ℕ). map number_in (take n run) ++ drop n zeros) same
    ∙ ap₂ (λ (front : List FieldValue) (n : ℕ). map number_in front ++ drop n zeros) (take_all (length run) run (omega arith)) (sym (length-map run number_in))

-- values with one bound more
bounds-next : (bounds : List ℕ) (place bound : ℕ) → place < length bounds → bound ≡ get_or bounds place 0 → bound_values (take (suc place) bounds) ≡ bound_values (take place bounds) ++ value.Number bound ∷ []
bounds-next [] place bound h same = absurd (omega (arith, h))
bounds-next (b ∷ bounds) zero bound h same = ap (λ (n : ℕ). value.Number n ∷ []) (sym same)
bounds-next (b ∷ bounds) (suc place) bound h same = ap (λ (rest : List FieldValue). value.Number b ∷ rest) (bounds-next bounds place bound (omega (arith, h)) same)

pub bounds-more : (bounds : List ℕ) (place bound : ℕ) → place < length bounds → bound ≡ get_or bounds place 0 → bound_values (take (place + 1) bounds) ≡ bound_values (take place bounds) ++ value.Number bound ∷ []
bounds-more bounds place bound h same = rw add-one (bounds-next bounds place bound h same)
