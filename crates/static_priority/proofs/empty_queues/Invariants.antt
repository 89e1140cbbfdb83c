use Rattle.std.proofs.Common.{◌≡◌, [], map, replicate}
use Rattle.static_priority.specs.Room.{keys_of}
use Rattle.static_priority.proofs.empty_queues.Given as goal

-- one empty queue a level so far
abbrev pub invariant-loop-level : goal.invariant-loop-level
invariant-loop-level l = map keys_of l.queues.items ≡ replicate l._level []
