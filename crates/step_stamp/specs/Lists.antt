-- Words on lists: what stands in one, which elements appear in another in their order, numbers that all differ, and numbers
-- counted up and down.
use Rattle.std.specs.Prelude.{◌≡◌, ℕ, zero, suc, ◌⊎◌, ◌==◌, not, List, [], ◌∷◌, ◌++◌, filter}

-- it stands in the list
abbrev pub Has : {X : Type 0} → X → List X → Type 0
Has x [] = ⊥
Has x (y ∷ ys) = (y ≡ x) ⊎ Has x ys

-- the elements of the first list appear in the second, in their order
abbrev pub AppearIn : {X : Type 0} → List X → List X → Type 0
AppearIn [] ys = Unit {0}
AppearIn (x ∷ xs) [] = ⊥
AppearIn (x ∷ xs) (y ∷ ys) = ((y ≡ x) × AppearIn xs ys) ⊎ AppearIn (x ∷ xs) ys

-- no number stands twice
abbrev pub Differ : List ℕ → Type 0
Differ [] = Unit {0}
Differ (n ∷ ns) = (Has n ns → ⊥) × Differ ns

-- the numbers below n: falling, and rising
unfoldable pub below : ℕ → List ℕ
below zero = []
below (suc n) = n ∷ below n

unfoldable pub up_to : ℕ → List ℕ
up_to zero = []
up_to (suc n) = up_to n ++ n ∷ []

-- the list without a number
abbrev pub without_number : ℕ → List ℕ → List ℕ
without_number n ns = filter (λ k. not (k == n)) ns
