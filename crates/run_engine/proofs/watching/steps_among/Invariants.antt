use Rattle.std.proofs.Common.{◌≡◌, ◌≤◌, length, take, reverse}
use Rattle.run_engine.proofs.Words.{actor_number, replies_to}
use Rattle.run_engine.proofs.watching.steps_among.Given as goal

-- the steps so far, no more than the entries
abbrev pub invariant-loop-done : goal.invariant-loop-done
invariant-loop-done l = record { made : l.made ≡ length (replies_to (actor_number l.actor) (reverse (take l.done-index l.entries))); most : l.made ≤ l.done-index }
