-- Numbers that don't fall and all differ rise; and as many rising numbers as there are below a number are those from 0 on.
use Rattle.std.proofs.Common.{◌≡◌, ℕ, zero, suc, ◌+◌, ◌<◌, ◌≤◌, List, [], ◌∷◌, ◌++◌, length, map, refl, ap, ◌∙◌, subst, ⊎_elim, arith}
use Rattle.shared_network.proofs.Words.{slice_index_or, IsNonDecreasingBy, cases_eq, length-map, Each, Has, Differ, up_to}
use Rattle.link_steps.proofs.SearchAndFilter.{Each-map}
use Rattle.step_stamp.proofs.ListMembers.{each-has, has-each}
use Rattle.shared_network.proofs.ToldAtClosing.{map-has}

-- each number is at least `low`, and above the one before
abbrev RisesBy : ℕ → List ℕ → Type 0
RisesBy low [] = Unit {0}
RisesBy low (n ∷ ns) = (low ≤ n) × RisesBy (suc n) ns

rising-length : (low top : ℕ) (ns : List ℕ) → RisesBy low ns → Each (λ n. n < top) ns → low ≤ top → low + length ns ≤ top
rising-length low top [] rises below le = omega arith
rising-length low top (n ∷ ns) rises below le =
    let here = below.0 in
    let first = rises.0 in
    let rest = rising-length (suc n) top ns rises.1 below.1 (omega (arith, here)) in
    omega (arith, rest, first)

unfoldable counted : ℕ → ℕ → List ℕ
counted low zero = []
counted low (suc k) = low ∷ counted (suc low) k

counted-more : (low k : ℕ) → counted low (suc k) ≡ counted low k ++ (low + k) ∷ []
unfolding counted
counted-more low zero = let e : low ≡ low + 0 = omega arith in ap (λ n. n ∷ []) e
counted-more low (suc k) = let e : suc low + k ≡ low + suc k = omega arith in ap (λ ns. low ∷ ns) (counted-more (suc low) k ∙ ap (λ n. counted (suc low) k ++ n ∷ []) e)

counted-up_to : (k : ℕ) → counted 0 k ≡ up_to k
unfolding counted up_to
counted-up_to zero = refl
counted-up_to (suc k) = (let e : 0 + k ≡ k = omega arith in counted-more 0 k ∙ (λ i. counted-up_to k i ++ e i ∷ []))

rising-counted : (low : ℕ) (ns : List ℕ) → RisesBy low ns → Each (λ n. n < low + length ns) ns → ns ≡ counted low (length ns)
unfolding counted
rising-counted low [] rises below = refl
rising-counted low (n ∷ ns) rises below =
    let here = below.0 in
    let first = rises.0 in
    let rest = rising-length (suc n) (low + suc (length ns)) ns rises.1 below.1 (omega (arith, here)) in
    let is : n ≡ low = omega (arith, rest, first) in
    let top : low + suc (length ns) ≡ suc low + length ns = omega arith in
    (λ i. is i ∷ rising-counted (suc low) ns (subst (λ k. RisesBy (suc k) ns) is rises.1) (subst (λ t. Each (λ m. m < t) ns) top below.1) i)

module _ {X : Type 0} (number : X → ℕ) where
  from-first : (P : X → Type 0) (xs : List X) → ((j : ℕ) (d : X) → j < length xs → P (slice_index_or xs j d)) → Each P xs
  from-first P [] all = tt
  from-first P (x ∷ xs) all = (all 0 x (omega arith), from-first P xs (λ j d lt. all (suc j) d (omega (arith, lt))))

  rising : (low : ℕ) (xs : List X) → IsNonDecreasingBy number xs → Differ (map number xs) → Each (λ (x : X). low ≤ number x) xs → RisesBy low (map number xs)
  rising low [] order differ least = tt
  rising low (x ∷ xs) order differ least = (
    least.0,
    rising (suc (number x)) xs (λ i j d le lt. order (suc i) (suc j) d (omega (arith, le)) (omega (arith, lt))) differ.1
        (has-each (λ (y : X). suc (number x) ≤ number y) xs
        (λ y has.
        let le = each-has (λ (z : X). number x ≤ number z) y xs (from-first (λ (z : X). number x ≤ number z) xs (λ j d lt. order 0 (suc j) d (omega arith) (omega (arith, lt)))) has in
        ⊎_elim
        (λ (same : number y ≡ number x). absurd (differ.0 (subst (λ n. Has n (map number xs)) same (map-has number xs y has))))
        (λ other. omega (arith, le, other))
        (cases_eq (number y) (number x)))),
  )

  -- as many elements as numbers, in order
  pub ordered-numbers : (xs : List X) → IsNonDecreasingBy number xs → Differ (map number xs) → Each (λ (x : X). number x < length xs) xs → map number xs ≡ up_to (length xs)
  ordered-numbers xs order differ below =
      let long : length (map number xs) ≡ length xs = length-map xs number in
      let top : length xs ≡ 0 + length (map number xs) = omega (arith, long) in
      rising-counted 0 (map number xs) (rising 0 xs order differ (has-each (λ (x : X). 0 ≤ number x) xs (λ x has. omega arith)))
      (Each-map (λ n. n < 0 + length (map number xs)) number xs (subst (λ t. Each (λ (x : X). number x < t) xs) top below))
      ∙ counted-up_to (length (map number xs))
      ∙ ap up_to long
