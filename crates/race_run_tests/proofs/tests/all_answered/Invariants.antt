use Rattle.std.proofs.Common.{◌≡◌}
use Rattle.race_run_tests.proofs.tests.all_answered.Given as goal

-- it is the same link
abbrev pub invariant-loop-entry : goal.invariant-loop-entry
invariant-loop-entry g l = g.L.LinkStep.link_of l.link ≡ g.L.LinkStep.link_of l.fn.link
