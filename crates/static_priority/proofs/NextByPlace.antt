-- The next key to leave, by the place of its queue.
use Rattle.std.proofs.Common.{◌≡◌, ℕ, zero, suc, ◌<◌, ◌+◌, ◌-◌, List, [], ◌∷◌, Some, None, length, get_or, set, refl, ap, arith}
use Rattle.static_priority.specs.Queues.{head_from, left_of, PicksHead}

-- where every queue is empty no key leaves
pub head_from-empty : (level : ℕ) (queues : List (List ℕ)) → ((k : ℕ) → k < length queues → get_or queues k [] ≡ [])
    → (head_from level queues ≡ None) × (left_of queues ≡ queues)
unfolding head_from left_of
head_from-empty level [] empty = (refl, refl)
head_from-empty level ([] ∷ higher) empty =
    let rest = head_from-empty (level + 1) higher (λ k lt. empty (suc k) (omega arith)) in
    (rest.0, ap (λ queues. [] ∷ queues) rest.1)
head_from-empty level ((key ∷ keys) ∷ higher) empty = let e = empty 0 (omega arith) in absurd (cc)

-- where the queues before a place are empty, the key that leaves is the head of the queue there
pub head_from-at : (level : ℕ) (queues : List (List ℕ)) (place key : ℕ) (after : List ℕ) → place < length queues
    → get_or queues place [] ≡ key ∷ after → ((k : ℕ) → k < place → get_or queues k [] ≡ [])
    → (head_from level queues ≡ Some (level + place, key)) × (left_of queues ≡ set queues place after)
unfolding head_from left_of
head_from-at level [] place key after within head before = absurd (omega arith)
head_from-at level ([] ∷ higher) zero key after within head before = absurd (cc)
head_from-at level ((first ∷ keys) ∷ higher) zero key after within head before =
    let same_key : first ≡ key = cc in
    let same_keys : keys ≡ after = cc in
    let here : level ≡ level + 0 = omega arith in
    (cc, cc)
head_from-at level ([] ∷ higher) (suc place) key after within head before =
    let rest = head_from-at (level + 1) higher place key after (omega arith) head (λ k lt. before (suc k) (omega arith)) in
    let place_is : level + suc place ≡ level + 1 + place = omega arith in
    (rw place_is rest.0, ap (λ queues. [] ∷ queues) rest.1)
head_from-at level ((first ∷ keys) ∷ higher) (suc place) key after within head before = let e = before 0 (omega arith) in absurd (cc)

-- what is picked there
pub picks-at : (queues : List (List ℕ)) (place level key : ℕ) (after : List ℕ) → level ≡ place + 1 → place < length queues
    → get_or queues place [] ≡ key ∷ after → ((k : ℕ) → k < place → get_or queues k [] ≡ [])
    → PicksHead queues (set queues place after) level key
picks-at queues place level key after counted within head before =
    let place_is : level - 1 ≡ place = omega arith in
    record {
      after = after;
      one_of = (omega arith, omega arith);
      head = rw place_is head;
      least = λ smaller from below. before (smaller - 1) (omega arith);
      left = rw place_is refl;
    }

-- a queue stays where its key leaves
pub as_many_left : (queues : List (List ℕ)) → length (left_of queues) ≡ length queues
unfolding left_of
as_many_left [] = refl
as_many_left ([] ∷ higher) = ap suc (as_many_left higher)
as_many_left ((key ∷ keys) ∷ higher) = refl
