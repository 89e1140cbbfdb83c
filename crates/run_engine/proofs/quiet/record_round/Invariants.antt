use Rattle.std.proofs.Common.{◌≡◌, reverse}
use Rattle.run_engine.specs.schedules.Quiet.{quiet_round}
use Rattle.run_engine.proofs.quiet.record_round.Given as goal

-- the ticks of the links so far are recorded
abbrev pub invariant-loop-number : goal.invariant-loop-number
invariant-loop-number l = reverse l.kept.entries ≡ quiet_round l.plane l.round l.number (reverse l.initial.kept.entries)
