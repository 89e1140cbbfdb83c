use Rattle.std.proofs.Common.{◌≡◌, length}
use Rattle.race_run_tests.specs.Worked.{EachWithNumber, IsWorkedLink}
use Rattle.race_run_tests.proofs.tests.moves.links.Given as goal

-- one a number so far
abbrev pub invariant-loop-number : goal.invariant-loop-number
invariant-loop-number l = record { all : EachWithNumber IsWorkedLink 0 l.links.items; count : length l.links.items ≡ l.number }
