-- A list without the first of its elements that pass a test, seen through another test.
use Rattle.std.proofs.Common.{◌≡◌, Bool, true, false, List, [], ◌∷◌, ◌++◌, filter, Some, None, refl, sym, ap, ◌∙◌, inl, inr}
use Rattle.std.proofs.lemmas.Bool.{cases_Bool}
use Rattle.std.proofs.lemmas.List.{append-nil}
use Rattle.std.proofs.lemmas.List.Elements.{filter-append}
use Rattle.std.proofs.lemmas.Option.{same_Some}
use Rattle.std.specs.Prelude.{find}
use Rattle.link_steps.specs.Lists.{Each, without_first}
use Rattle.link_steps.proofs.SearchAndFilter.{filter-none}

-- what passes the other test is left, where the first doesn't
pub left-others : {X : Type 0} (p q : X → Bool) (x : X) (xs : List X) → find p xs ≡ Some x → q x ≡ false
    → filter q (without_first p xs) ≡ filter q xs
unfolding without_first
left-others p q x [] found fails = cc
left-others p q x (y ∷ ys) found fails =
    elim (cases_Bool (p y)) [
      | inl passes ↦
          (let same : y ≡ x = same_Some y x (rw passes at found) in
          let off : q y ≡ false = ap q same ∙ fails in
          rw passes (rw off refl))
      | inr skips ↦
          (let rest : filter q (without_first p ys) ≡ filter q ys = left-others p q x ys (rw skips at found) fails in
          elim (cases_Bool (q y)) [
            | inl own ↦ rw skips (rw own (ap (λ zs. y ∷ zs) rest))
            | inr off ↦ rw skips (rw off rest)
          ])
    ]

-- where it does, it is the first of them
pub left-own : {X : Type 0} (p q : X → Bool) (x : X) (xs : List X) → ((y : X) → p y ≡ false → q y ≡ false) → find p xs ≡ Some x → q x ≡ true
    → filter q xs ≡ x ∷ filter q (without_first p xs)
unfolding without_first
left-own p q x [] within found passes = cc
left-own p q x (y ∷ ys) within found passes =
    elim (cases_Bool (p y)) [
      | inl first ↦
          (let same : y ≡ x = same_Some y x (rw first at found) in
          let own : q y ≡ true = ap q same ∙ passes in
          rw first (rw own (ap (λ z. z ∷ filter q ys) same)))
      | inr skips ↦ (let off = within y skips in rw skips (rw off (left-own p q x ys within (rw skips at found) passes)))
    ]

-- none passes a test that is within one that none passes
pub none-left : {X : Type 0} (p q : X → Bool) (xs : List X) → ((y : X) → p y ≡ false → q y ≡ false) → find p xs ≡ None → filter q xs ≡ []
none-left p q [] within none = refl
none-left p q (y ∷ ys) within none =
    elim (cases_Bool (p y)) [
      | inl first ↦ absurd (let clash : Some y ≡ None = rw first at none in cc)
      | inr skips ↦ (let off = within y skips in rw off (none-left p q ys within (rw skips at none)))
    ]

-- what none of the new ones passes is as it was
pub more-same : {X : Type 0} (q : X → Bool) (xs new : List X) → Each (λ x. q x ≡ false) new → filter q (xs ++ new) ≡ filter q xs
more-same q xs new each = filter-append q xs new ∙ ap (λ ys. filter q xs ++ ys) (filter-none q new each) ∙ append-nil (filter q xs)

pub found-passes : {X : Type 0} (p : X → Bool) (x : X) (xs : List X) → find p xs ≡ Some x → p x ≡ true
found-passes p x [] found = cc
found-passes p x (y ∷ ys) found =
    elim (cases_Bool (p y)) [
      | inl first ↦ (let same : y ≡ x = same_Some y x (rw first at found) in ap p (sym same) ∙ first)
      | inr skips ↦ found-passes p x ys (rw skips at found)
    ]
