-- When the hold of a row has ended, by its phase and its numbers.
use Rattle.std.proofs.Common.{◌≡◌, ℕ, ◌+◌, ◌≤◌, Bool, true, false, ◌&&◌, ◌||◌, ◌⊎◌, inl, inr, List, refl, sym, ap}
use Rattle.std.proofs.lemmas.Bool.{le-leb, leb-true, eq-eqb, eqb-true, and_parts, or_cases, or_right}
use Rattle.std.specs.Bool.{IsTrue}
use Rattle.std.specs.Prelude.{◌↔◌, nat_eq, nat_le}
use Rattle.link_server.proofs.Words.{last_bound, Phase, Tentative, Committed, Closing, Reservation, is_phase}
use Rattle.link_steps.specs.Hold.{hold_ended}

-- it hasn't where the row isn't closing
pub open-phase : (phase : Phase) → (phase ≡ Tentative) ⊎ (phase ≡ Committed) → is_phase phase Closing ≡ false
open-phase phase (inl is) = rw is refl
open-phase phase (inr is) = rw is refl

-- so its hold runs on
pub hold-open : (bounds : List ℕ) (terms : Reservation) (taken last t : ℕ) → (terms.phase ≡ Tentative) ⊎ (terms.phase ≡ Committed) → false ≡ hold_ended bounds terms taken last t
unfolding hold_ended
hold-open bounds terms taken last t phase = rw (open-phase terms.phase phase) refl

-- a test is what it says
test-is : (b c : Bool) → (IsTrue b → c ≡ true) → (c ≡ true → IsTrue b) → b ≡ c
test-is true true up down = refl
test-is true false up down = sym (up refl)
test-is false true up down = down refl
test-is false false up down = refl

ended-up : (count taken last top t : ℕ) → (count ≡ 0) ⊎ ((taken ≡ count) × (last + top ≤ t)) → (nat_eq count 0 || (nat_eq taken count && nat_le (last + top) t)) ≡ true
ended-up count taken last top t (inl none) = rw (eq-eqb count 0 none) refl
ended-up count taken last top t (inr all) = rw (eq-eqb taken count all.0, le-leb (last + top) t all.1) (or_right (nat_eq count 0) true refl)

ended-down : (count taken last top t : ℕ) → (nat_eq count 0 || (nat_eq taken count && nat_le (last + top) t)) ≡ true → (count ≡ 0) ⊎ ((taken ≡ count) × (last + top ≤ t))
ended-down count taken last top t ended = elim (or_cases (nat_eq count 0) (nat_eq taken count && nat_le (last + top) t) ended) [
  | inl none ↦ inl (eqb-true count 0 none)
  | inr all ↦ inr (let parts = and_parts (nat_eq taken count) (nat_le (last + top) t) all in (eqb-true taken count parts.0, leb-true (last + top) t parts.1))
]

-- of a closing row it has where no packet is left to wait for
pub hold-closing : (bounds : List ℕ) (terms : Reservation) (taken last top t : ℕ) (ended : Bool) → terms.phase ≡ Closing → top ≡ last_bound bounds → (IsTrue ended ↔ ((terms.count ≡ 0) ⊎ ((taken ≡ terms.count) × (last + top ≤ t)))) → ended ≡ hold_ended bounds terms taken last t
unfolding hold_ended
hold-closing bounds terms taken last top t ended phase same exact =
    let closing : is_phase terms.phase Closing ≡ true = ap (λ phase. is_phase phase Closing) phase in
    rw (closing, sym same)
    (test-is ended (nat_eq terms.count 0 || (nat_eq taken terms.count && nat_le (last + top) t)) (λ is. ended-up terms.count taken last top t (exact.0 is)) (λ is. exact.1 (ended-down terms.count taken last top t is)))
