-- The least tick of the entries so far.
use Rattle.std.proofs.Common.{take}
use Rattle.tick_calendar.specs.Wheel.{entries_in, IsLeastBy}
use Rattle.tick_calendar.proofs.wheel.least_tick.Given as goal

abbrev pub invariant-loop-place : goal.invariant-loop-place
invariant-loop-place g l = IsLeastBy (entries_in (take l.place-index l.places)) l.now l.least
