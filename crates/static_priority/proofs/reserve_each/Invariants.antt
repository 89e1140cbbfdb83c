use Rattle.std.proofs.Common.{◌≡◌, ℕ, ◌≤◌, map}
use Rattle.std.specs.List.{AllWithin}
use Rattle.std.specs.VecDeque.{deque_capacity}
use Rattle.static_priority.specs.Room.{keys_of, HoldsEach}
use Rattle.static_priority.proofs.reserve_each.Given as goal

-- the keys stay, no queue has less room than it had, and those after have the room that is asked for
abbrev pub invariant-loop-queue : goal.invariant-loop-queue
invariant-loop-queue l = record {
  keys : map keys_of l.queues ≡ map keys_of l.fn.queues;
  grows : (least : ℕ) → HoldsEach l.fn.queues least → HoldsEach l.queues least;
  room : AllWithin (λ queue. l.room ≤ deque_capacity queue) l.queues 0 l.queue-index;
}
