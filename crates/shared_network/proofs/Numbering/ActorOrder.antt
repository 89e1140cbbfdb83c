-- The actors of all passes of an opening, in any order: each actor has a pass, and no other pass has it.
use Rattle.std.proofs.Common.{◌≡◌, ℕ, zero, suc, ◌<◌, List, [], ◌∷◌, map, Some, None, refl, sym, ap, ◌∙◌, subst, inl, inr, arith}
use Rattle.shared_network.proofs.Words.{slice_get, IsPermutation, map-id, IsPermutation-refl, IsPermutation-sym, same_Some, Each, Has, Differ, up_to}
use Rattle.link_steps.proofs.SearchAndFilter.{Each-append, Each-if}
use Rattle.link_steps.proofs.ListParts.{Each-permuted}
use Rattle.step_stamp.proofs.ListMembers.{differ-both, each-has, has-each}
use Rattle.shared_network.proofs.Numbering.SeatsJoined.{up_to-has}
use Rattle.shared_network.proofs.Numbering.PermutedLists.{differ-permuted}

-- ---- numbers from 0 on

below-top : (n : ℕ) → Each (λ k. k < n) (up_to n)
unfolding up_to
below-top zero = tt
below-top (suc n) = Each-append (λ k. k < suc n) (up_to n) (n ∷ []) (Each-if (λ k. k < n) (λ k. k < suc n) (up_to n) (λ k lt. omega (arith, lt)) (below-top n)) (omega arith, tt)

up_to-differ : (n : ℕ) → Differ (up_to n)
unfolding up_to
up_to-differ zero = tt
up_to-differ (suc n) = differ-both (up_to n) (n ∷ []) (up_to-differ n) ((λ none. none), tt) (λ k below last. (let lt = each-has (λ m. m < n) k (up_to n) (below-top n) below in top k lt last)) where
  top : (k : ℕ) → k < n → Has k (n ∷ []) → ⊥
  top k lt (inl same) = omega (arith, lt, same)
  top k lt (inr none) = none

-- ---- in any order

pub actors-in_order : (n : ℕ) (ns : List ℕ) → ns ≡ up_to n → IsPermutation (up_to n) ns
actors-in_order n ns is = subst (IsPermutation (up_to n)) (sym is) (IsPermutation-refl (up_to n))

pub actors-there : (n a : ℕ) (ns : List ℕ) → IsPermutation (up_to n) ns → a < n → Has a ns
actors-there n a ns moved below =
    each-has (λ k. Has k ns) a (up_to n) (Each-permuted (λ k. Has k ns) ns (up_to n) (IsPermutation-sym (up_to n) ns moved) (has-each (λ k. Has k ns) ns (λ k has. has))) (up_to-has n a below)

pub actors-differ : (n : ℕ) (ns : List ℕ) → IsPermutation (up_to n) ns → Differ ns
actors-differ n ns moved = subst Differ (map-id ns) (differ-permuted (λ k. k) (up_to n) ns moved (subst Differ (sym (map-id (up_to n))) (up_to-differ n)))

-- where all numbers differ, elements of one number stand at one place
number-at : {X : Type 0} (number : X → ℕ) (xs : List X) (i : ℕ) (x : X) → slice_get xs i ≡ Some x → Has (number x) (map number xs)
number-at number [] i x found = absurd (let clash : None ≡ Some x = found in cc)
number-at number (y ∷ xs) zero x found = inl (ap number (same_Some y x found))
number-at number (y ∷ xs) (suc i) x found = inr (number-at number xs i x found)

pub one-place : {X : Type 0} (number : X → ℕ) (xs : List X) (i j : ℕ) (x y : X) → Differ (map number xs) → slice_get xs i ≡ Some x → slice_get xs j ≡ Some y → number x ≡ number y → i ≡ j
one-place number [] i j x y differ found there same = absurd (let clash : None ≡ Some x = found in cc)
one-place number (z ∷ xs) zero zero x y differ found there same = refl
one-place number (z ∷ xs) zero (suc j) x y differ found there same = absurd (differ.0 (subst (λ n. Has n (map number xs)) (sym (ap number (same_Some z x found) ∙ same)) (number-at number xs j y there)))
one-place number (z ∷ xs) (suc i) zero x y differ found there same = absurd (differ.0 (subst (λ n. Has n (map number xs)) (same ∙ sym (ap number (same_Some z y there))) (number-at number xs i x found)))
one-place number (z ∷ xs) (suc i) (suc j) x y differ found there same = ap suc (one-place number xs i j x y differ.1 found there same)
