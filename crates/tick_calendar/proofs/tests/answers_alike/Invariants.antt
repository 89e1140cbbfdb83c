-- The calendar's clock isn't past the tick at hand, which stays small.
use Rattle.std.proofs.Common.{◌+◌, ◌*◌, ◌≤◌}
use Rattle.tick_calendar.proofs.tests.answers_alike.Given as goal

abbrev pub invariant-loop-key : goal.invariant-loop-key
invariant-loop-key g l = record { clock : l.calendar.clock ≤ l.now; low : l.now ≤ 40 * l.key }

abbrev pub invariant-loop-left : goal.invariant-loop-left
invariant-loop-left g l = record { clock : l.calendar.clock ≤ l.now; low : l.now ≤ 8000 + 90 * l._left }
