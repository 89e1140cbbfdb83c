use Rattle.interleave_core.specs.Cores.{CoreStands}
use Rattle.run_tests.proofs.reports.run.Given as goal

-- the core stands
abbrev pub invariant-loop-actor : goal.invariant-loop-actor
invariant-loop-actor l = CoreStands l.plan l.core
