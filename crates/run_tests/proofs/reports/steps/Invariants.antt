use Rattle.interleave_core.specs.Cores.{CoreStands}
use Rattle.run_tests.proofs.reports.steps.Given as goal

-- the core stands
abbrev pub invariant-loop-step : goal.invariant-loop-step
invariant-loop-step l = CoreStands l.plan l.core
