-- Two levels, worked by hand: key 7 pushed at level 2, key 8 at level 1, and key 9 at level 2.
use Rattle.std.proofs.Common.{◌≡◌, ℕ, refl, List, [], ◌∷◌, Some, None}
use Rattle.static_priority.specs.Queues.{with_pushed, head_from, head_of, left_of}

abbrev three : List (List ℕ)
three = with_pushed (with_pushed (with_pushed ([] ∷ [] ∷ []) 2 7) 1 8) 2 9

-- each level keeps its keys in their order
kept-in-order : three ≡ (8 ∷ []) ∷ (7 ∷ 9 ∷ []) ∷ []
kept-in-order = refl

-- the least level is served first
level-1-first : head_of three ≡ Some (1, 8)
unfolding head_from
level-1-first = refl

-- within a level the first to come is the first to leave
key-7-then : head_of (left_of three) ≡ Some (2, 7)
unfolding head_from left_of
key-7-then = refl

key-9-then : head_of (left_of (left_of three)) ≡ Some (2, 9)
unfolding head_from left_of
key-9-then = refl

none-then : head_of (left_of (left_of (left_of three))) ≡ None
unfolding head_from left_of
none-then = refl
