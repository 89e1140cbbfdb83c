-- Queues, one a level: which element is first of all, what is left once it has gone, and what one more makes of them.
use Rattle.std.specs.Prelude.{ℕ, zero, suc, List, [], ◌∷◌, ◌++◌, Option, Some, None}

module _ {X : Type 0} where
  -- the elements of all queues, queue by queue
  abbrev pub joined : List (List X) → List X
  joined [] = []
  joined (queue ∷ queues) = queue ++ joined queues

  -- the head of the first queue that isn't empty
  abbrev pub first_of : List (List X) → Option X
  first_of [] = None
  first_of ([] ∷ queues) = first_of queues
  first_of ((x ∷ queue) ∷ queues) = Some x

  -- the queues once it has gone
  abbrev pub after_first : List (List X) → List (List X)
  after_first [] = []
  after_first ([] ∷ queues) = [] ∷ after_first queues
  after_first ((x ∷ queue) ∷ queues) = queue ∷ queues

  -- the queues with one more at the end of the queue at a place, from 0
  abbrev pub pushed : List (List X) → ℕ → X → List (List X)
  pushed [] place x = []
  pushed (queue ∷ queues) zero x = (queue ++ x ∷ []) ∷ queues
  pushed (queue ∷ queues) (suc place) x = queue ∷ pushed queues place x
