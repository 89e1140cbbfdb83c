use Rattle.std.proofs.Common.{List}
use Rattle.call_times.specs.Makings.{IsBetween}
use Rattle.call_times.specs.declared.times.Times.{Times}
use Rattle.call_times.proofs.making.Making.play_to.Given as goal

-- whole rounds are made
abbrev pub invariant-loop : goal.invariant-loop
invariant-loop l = (times : List Times) → IsBetween l.plan times l.initial.self → IsBetween l.plan times l.self
