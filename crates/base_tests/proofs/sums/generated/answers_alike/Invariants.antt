use Rattle.std.proofs.Common.{◌≡◌, length}
use Rattle.base_tests.proofs.sums.generated.answers_alike.Given as goal

-- the link keeps its three levels
abbrev pub invariant-loop-turn : goal.invariant-loop-turn
invariant-loop-turn g l = length l.sums.server.bounds ≡ 3
