-- The element at an index, as it was read and with one more element, and what an answer's value has.
use Rattle.std.proofs.Common.{◌≡◌, ◌⊎◌, ℕ, zero, suc, ◌<◌, Some, List, [], ◌∷◌, ◌++◌, length, get_or, refl, sym, ap, ◌∙◌, inl, inr, Result, Ok, Err, OnOk, arith}
pub use Rattle.net_units.proofs.ListPlaces.{get-set-same, get-set-other, head-same, tail-same, map-reverse}
use Rattle.run_engine.proofs.Words.{same_Some, slice_get_cases, slice_get_read, slice_get}

pub get-push : {X : Type 0} (xs : List X) (x : X) (n : ℕ) (y : X) → slice_get (xs ++ x ∷ []) n ≡ Some y → (slice_get xs n ≡ Some y) ⊎ ((n ≡ length xs) × (y ≡ x))
get-push [] x zero y is = inr (refl, sym (same_Some x y is))
get-push [] x (suc n) y is = cc
get-push (z ∷ zs) x zero y is = inl is
get-push (z ∷ zs) x (suc n) y is = elim (get-push zs x n y is) [ inl before ↦ inl before | inr last ↦ inr (ap suc last.0, last.1) ]

-- the element that was read at an index
pub found-at : {X : Type 0} (read xs : List X) (i n : ℕ) (x : X) → read ≡ xs → i ≡ n → i < length read → x ≡ get_or read i x → slice_get xs n ≡ Some x
found-at read xs i n x same at within is = ap (λ (ys : List _). slice_get ys n) (sym same) ∙ ap (slice_get read) (sym at) ∙ slice_get_read read (length read) i x refl within is

-- an index within a list has an element
pub record Held {X : Type 0} (xs : List X) (n : ℕ) : Type 0 where
  pub item : X
  pub found : slice_get xs n ≡ Some item

pub held : {X : Type 0} (xs : List X) (n : ℕ) → n < length xs → Held xs n
held xs n within =
    elim (slice_get_cases xs n).1 [
      | inl at ↦ record { item = at.0; found = at.2 }
      | inr past ↦ absurd (omega (arith, past.0, within))
    ]

-- ---- answers

pub when-ok : {T E : Type 0} {P : Type 0} (answer : Result T E) (x : T) → answer ≡ Ok x → OnOk answer P → P
when-ok (Ok y) x is own = own
when-ok (Err e) x is own = cc
