-- The entries of the places so far.
use Rattle.std.proofs.Common.{◌≡◌, take}
use Rattle.tick_calendar.specs.Wheel.{entries_in}
use Rattle.tick_calendar.proofs.wheel.Wheel.entries.Given as goal

abbrev pub invariant-loop-place : goal.invariant-loop-place
invariant-loop-place g l = l.entries.items ≡ entries_in (take l.place-index l.self.places.items)
