use Rattle.std.proofs.Common.{◌≡◌, length}
use Rattle.race_run_tests.specs.Worked.{EachWithNumber, IsMovedRequest}
use Rattle.race_run_tests.proofs.tests.moves.requests.Given as goal

-- one a number so far
abbrev pub invariant-loop-number : goal.invariant-loop-number
invariant-loop-number l = record { all : EachWithNumber IsMovedRequest 0 l.requests.items; count : length l.requests.items ≡ l.number }
