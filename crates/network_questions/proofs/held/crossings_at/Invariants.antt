use Rattle.std.proofs.Common.{◌≤◌, length}
use Rattle.network_questions.proofs.held.crossings_at.Given as goal

-- no more than the requests seen so far
abbrev pub invariant-loop-number : goal.invariant-loop-number
invariant-loop-number l = length l.crossings.items ≤ l.number
