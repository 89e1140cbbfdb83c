use Rattle.std.proofs.Common.{◌≡◌, reverse}
use Rattle.run_engine.specs.schedules.Quiet.{quiet_rounds}
use Rattle.run_engine.proofs.quiet.record_rounds.Given as goal

-- the rounds so far are recorded
abbrev pub invariant-loop-passed : goal.invariant-loop-passed
invariant-loop-passed l = reverse l.kept.entries ≡ quiet_rounds l.plane l.links l.first l.passed (reverse l.initial.kept.entries)
