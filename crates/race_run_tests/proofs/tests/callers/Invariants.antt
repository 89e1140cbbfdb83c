use Rattle.std.proofs.Common.{◌≡◌, length}
use Rattle.race_run_tests.specs.Worked.{EachWithNumber, IsWorkedCaller}
use Rattle.race_run_tests.proofs.tests.callers.Given as goal

-- one a number so far
abbrev pub invariant-loop-number : goal.invariant-loop-number
invariant-loop-number l = record { all : EachWithNumber IsWorkedCaller 0 l.callers.items; count : length l.callers.items ≡ l.number }
