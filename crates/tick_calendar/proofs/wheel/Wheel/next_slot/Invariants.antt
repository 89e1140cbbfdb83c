-- No entry is due before the tick of the slot at hand.
use Rattle.std.proofs.Common.{◌+◌}
use Rattle.tick_calendar.specs.Wheel.{entries_in, AreAllFrom}
use Rattle.tick_calendar.proofs.wheel.Wheel.next_slot.Given as goal

abbrev pub invariant-loop-slot : goal.invariant-loop-slot
invariant-loop-slot g l = AreAllFrom (l.self.base + l.slot) (entries_in l.self.places.items)
