use Rattle.call_times.specs.Makings.{IsBetween}
use Rattle.call_times.proofs.scheduling.schedule_at.Given as goal

-- whole operations and rounds are made
abbrev pub invariant-loop : goal.invariant-loop
invariant-loop l = IsBetween l.plan l.times l.making
