-- Facts on lists, told of the elements that they hold of: of those that stand in the list, of those that pass a test, and
-- of the first of these, which is changed or taken out.
use Rattle.std.proofs.Common.{◌≡◌, ℕ, ◌+◌, ◌≤◌, Bool, true, false, not, cond, List, [], ◌∷◌, Some, inl, inr, refl, sym, ap, ◌∙◌, arith}
use Rattle.std.proofs.lemmas.Bool.{cases_Bool, cond_both}
use Rattle.std.proofs.lemmas.Option.{same_Some}
use Rattle.std.specs.Prelude.{filter, find}
use Rattle.traffic_contract.specs.Admission.{total}
use Rattle.link_steps.specs.Lists.{change_first, without_first, Each, Among}

-- a fact of each element stays one where the change keeps it of the one found
pub Each-change_found : {X : Type 0} (P : X → Type 0) (test : X → Bool) (change : X → X) (xs : List X) → ((x : X) → find test xs ≡ Some x → P x → P (change x)) → Each P xs → Each P (change_first test change xs)
unfolding change_first
Each-change_found P test change [] keeps each = tt
Each-change_found P test change (x ∷ xs) keeps each =
    elim (cases_Bool (test x)) [
      | inl passed ↦ (let now = keeps x (rw passed refl) each.0 in rw passed (now, each.1))
      | inr failed ↦ (let rest = Each-change_found P test change xs (λ y found. keeps y (rw failed found)) each.1 in rw failed (each.0, rest))
    ]

-- a fact of all that stand in a list
pub Each-from_among : {X : Type 0} (P : X → Type 0) (xs : List X) → ((x : X) → Among x xs → P x) → Each P xs
Each-from_among P [] all = tt
Each-from_among P (x ∷ xs) all = (all x (inl refl), Each-from_among P xs (λ y among. all y (inr among)))

-- what a filter passes passes its test
pub Each-passes : {X : Type 0} (test : X → Bool) (xs : List X) → Each (λ x. test x ≡ true) (filter test xs)
Each-passes test [] = tt
Each-passes test (x ∷ xs) =
    cond_both (test x) (x ∷ filter test xs) (filter test xs) (Each (λ y. test y ≡ true)) (λ passed. (passed, Each-passes test xs)) (λ _. Each-passes test xs)

-- and what is so of those that pass is so of each, if it passes
pub Each-if_passes : {X : Type 0} (P : X → Type 0) (test : X → Bool) (xs : List X) → Each P (filter test xs) → Each (λ x. test x ≡ true → P x) xs
Each-if_passes P test [] each = tt
Each-if_passes P test (x ∷ xs) each =
    elim (cases_Bool (test x)) [
      | inl passed ↦ (let both : P x × Each P (filter test xs) = rw passed at each in (λ _. both.0, Each-if_passes P test xs both.1))
      | inr failed ↦ (let rest : Each P (filter test xs) = rw failed at each in (λ passed. absurd (let h : false ≡ true = sym failed ∙ passed in cc), Each-if_passes P test xs rest))
    ]

-- a sum to which the change of the one found adds at least d
pub total-change_first-more : {X : Type 0} (f : X → ℕ) (test : X → Bool) (change : X → X) (d : ℕ) (x : X) (xs : List X) → find test xs ≡ Some x → f x + d ≤ f (change x) → total f xs + d ≤ total f (change_first test change xs)
unfolding change_first
total-change_first-more f test change d x [] found more = cc
total-change_first-more f test change d x (y ∷ xs) found more =
    elim (cases_Bool (test y)) [
      | inl passed ↦ (let same = same_Some y x (rw passed at found) in let e : f y ≡ f x = ap f same in let g : f (change y) ≡ f (change x) = ap (λ z. f (change z)) same in rw passed (omega (arith, more, e, g)))
      | inr failed ↦ (let rest = total-change_first-more f test change d x xs (rw failed at found) more in rw failed (omega (arith, rest)))
    ]

-- a sum that the change of the one found doesn't lower
pub total-change_first-ge : {X : Type 0} (f : X → ℕ) (test : X → Bool) (change : X → X) (xs : List X) → ((x : X) → find test xs ≡ Some x → f x ≤ f (change x)) → total f xs ≤ total f (change_first test change xs)
unfolding change_first
total-change_first-ge f test change [] more = omega arith
total-change_first-ge f test change (x ∷ xs) more =
    elim (cases_Bool (test x)) [
      | inl passed ↦ (let h = more x (rw passed refl) in rw passed (omega (arith, h)))
      | inr failed ↦ (let rest = total-change_first-ge f test change xs (λ y found. more y (rw failed found)) in rw failed (omega (arith, rest)))
    ]

-- a sum to which the one taken out added nothing
pub total-without_first-ge : {X : Type 0} (f : X → ℕ) (test : X → Bool) (xs : List X) → ((x : X) → find test xs ≡ Some x → f x ≡ 0) → total f xs ≤ total f (without_first test xs)
unfolding without_first
total-without_first-ge f test [] none = omega arith
total-without_first-ge f test (x ∷ xs) none =
    elim (cases_Bool (test x)) [
      | inl passed ↦ (let h = none x (rw passed refl) in rw passed (omega (arith, h)))
      | inr failed ↦ (let rest = total-without_first-ge f test xs (λ y found. none y (rw failed found)) in rw failed (omega (arith, rest)))
    ]

-- a sum over what a test passes and over what it doesn't
pub total-filter-both : {X : Type 0} (f : X → ℕ) (test : X → Bool) (xs : List X) → total f (filter (λ x. not (test x)) xs) + total f (filter test xs) ≡ total f xs
total-filter-both f test [] = refl
total-filter-both f test (x ∷ xs) =
    let rest = total-filter-both f test xs in
    elim (test x) as (λ b. total f (cond (not b) (x ∷ filter (λ y. not (test y)) xs) (filter (λ y. not (test y)) xs)) + total f (cond b (x ∷ filter test xs) (filter test xs)) ≡ f x + total f xs)
    [ true ↦ omega (arith, rest) | false ↦ omega (arith, rest) ]
