use Rattle.std.proofs.Common.{◌≡◌, length}
use Rattle.base_tests.proofs.queues.answers_alike.Given as goal

-- there are three queues
abbrev pub invariant-loop-turn : goal.invariant-loop-turn
invariant-loop-turn g l = length l.queues.queues ≡ 3
