-- Names looked up among names.
use Rattle.std.proofs.Common.{◌≡◌, ℕ, suc, ◌+◌, Bool, true, false, not, nat_eq, nat_lt, List, [], ◌∷◌, length, Option, Some, None, is_some, if◌then◌else◌, position, refl, sym, ap, ◌∙◌, inl, inr, arith}
use Rattle.std.specs.Cmp.Lexicographic.{pointwise}
use Rattle.std.specs.List.{list_any, position_or_len}
use Rattle.std.proofs.lemmas.Bool.{cases_Bool, both_ways, cases_lt, lt-ltb, le-ltb}
use Rattle.std.proofs.lemmas.Slice.Eq.{bytes_eq-Decides}
use Rattle.call_script.specs.Rules.{is_named, is_new}
use Rattle.scenario_reader.specs.Forms.{is_among}

-- names are the same both ways
pub same-both : (a b : List ℕ) → pointwise nat_eq a b ≡ pointwise nat_eq b a
same-both a b =
    elim (cases_Bool (pointwise nat_eq b a)) [
      | inl same ↦ rw same ((bytes_eq-Decides a b).1 (sym ((bytes_eq-Decides b a).0 same)))
      | inr other ↦ rw other (elim (cases_Bool (pointwise nat_eq a b)) [
        | inl same ↦ absurd (both_ways (pointwise nat_eq b a) other ((bytes_eq-Decides b a).1 (sym ((bytes_eq-Decides a b).0 same))))
        | inr apart ↦ apart
      ])
    ]

-- so they are looked for both ways
named-both : (name : List ℕ) → ◌≡◌ {A = List ℕ → Bool} (pointwise nat_eq name) (is_named name)
named-both name = λ i other. same-both name other i

pub place-both : (names : List (List ℕ)) (name : List ℕ) → position (pointwise nat_eq name) names ≡ position (is_named name) names
place-both names name = ap (λ test. position test names) (named-both name)

pub place_there : (names : List (List ℕ)) (name : List ℕ) (r : Option ℕ) → r ≡ position (pointwise nat_eq name) names → r ≡ position (is_named name) names
place_there names name r e = e ∙ place-both names name

pub among-both : (names : List (List ℕ)) (name : List ℕ) → list_any (pointwise nat_eq name) names ≡ is_among names name
among-both names name = ap (λ test. list_any test names) (named-both name)

pub not_there : (names : List (List ℕ)) (name : List ℕ) → is_among names name ≡ false → list_any (pointwise nat_eq name) names ≡ false
not_there names name e = among-both names name ∙ e

pub known_there : (names : List (List ℕ)) (name : List ℕ) (b : Bool) → b ≡ list_any (pointwise nat_eq name) names → b ≡ is_among names name
known_there names name b e = e ∙ among-both names name

-- one more on both sides changes nothing
both-more : (n m : ℕ) → nat_lt (1 + n) (suc m) ≡ nat_lt n m
both-more n m =
    elim (cases_lt n m) [
      | inl less ↦ lt-ltb (1 + n) (suc m) (omega (arith, less)) ∙ sym (lt-ltb n m less)
      | inr past ↦ le-ltb (1 + n) (suc m) (omega (arith, past)) ∙ sym (le-ltb n m past)
    ]

-- a name has a place among names exactly where it is one of them
place-within : {X : Type 0} (test : X → Bool) (xs : List X) → nat_lt (position_or_len test xs) (length xs) ≡ list_any test xs
place-within test [] = refl
place-within test (x ∷ xs) = by (test x) refl (place-within test xs) where
  by : (here : Bool) → test x ≡ here → nat_lt (position_or_len test xs) (length xs) ≡ list_any test xs → nat_lt (position_or_len test (x ∷ xs)) (length (x ∷ xs)) ≡ list_any test (x ∷ xs)
  by true e rest = rw e (lt-ltb 0 (suc (length xs)) (omega arith))
  by false e rest = rw e (both-more (position_or_len test xs) (length xs) ∙ rest)

given-where : (within : Bool) (n : ℕ) → is_some (if within then Some n else None) ≡ within
given-where true n = refl
given-where false n = refl

has-place : {X : Type 0} (test : X → Bool) (xs : List X) → is_some (position test xs) ≡ list_any test xs
has-place test xs = given-where (nat_lt (position_or_len test xs) (length xs)) (position_or_len test xs) ∙ place-within test xs

-- so a new name has none
pub no-place : {X : Type 0} (test : X → Bool) (xs : List X) → list_any test xs ≡ false → position test xs ≡ None
no-place test xs none = by (position test xs) (has-place test xs ∙ none) where
  by : (found : Option ℕ) → is_some found ≡ false → found ≡ None
  by None e = refl
  by (Some n) e = cc

-- and a name without a place is new
pub new-without-place : (names : List (List ℕ)) (name : List ℕ) → position (is_named name) names ≡ None → is_new names name ≡ true
new-without-place names name none = ap not (sym (has-place (is_named name) names) ∙ ap is_some none)
