-- How the queues keep room for their keys. Any key may be pushed at any level, so each queue has room for all
-- the keys that wait, at whatever level, and for the spare ones. No public clause speaks of this.
use Rattle.std.specs.Prelude.{◌≡◌, ℕ, ◌≤◌, List, [], length, map, All, sum_by, slice_index_or}
use Rattle.std.specs.declared.alloc.Global.{Global}
use Rattle.std.specs.declared.collections.VecDeque.{VecDeque}
use Rattle.std.specs.VecDeque.{deque_capacity}

-- the keys of a queue, from its head on
abbrev pub keys_of : VecDeque ℕ Global → List ℕ
keys_of queue = queue.items

-- each queue can hold `room` keys
abbrev pub HoldsEach : List (VecDeque ℕ Global) → ℕ → Type 0
HoldsEach queues room = All (λ queue. room ≤ deque_capacity queue) queues

-- `waiting` keys wait in the queues, which have room for `room` keys each, and a queue past the last level that
-- a link can have is empty
pub record HasRoomFor (queues : List (VecDeque ℕ Global)) (waiting room : ℕ) : Type 0 where
  pub counted : waiting ≡ sum_by length (map keys_of queues)
  pub within : waiting ≤ room
  pub holds : HoldsEach queues room
  pub past : (place : ℕ) → 8 ≤ place → slice_index_or (map keys_of queues) place [] ≡ []
