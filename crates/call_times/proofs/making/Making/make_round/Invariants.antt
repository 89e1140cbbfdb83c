use Rattle.std.proofs.Common.{◌≡◌, List}
use Rattle.call_times.specs.Makings.{IsBetween, IsInRound}
use Rattle.call_times.specs.declared.times.Times.{Times}
use Rattle.call_times.proofs.making.Making.make_round.Given as goal

-- the round isn't over
abbrev pub invariant-loop : goal.invariant-loop
invariant-loop l = record {
  in_round : (times : List Times) → IsBetween l.plan times l.initial.self → IsInRound l.plan times l.self l.round;
  now : l.self.engine.actors.plane.at.round ≡ l.round;
}
