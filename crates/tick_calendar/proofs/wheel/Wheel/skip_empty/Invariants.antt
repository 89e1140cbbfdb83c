-- No entry is due before the tick of the slot at hand, and each step leaves fewer slots.
use Rattle.std.proofs.Common.{◌≤◌, ◌+◌, ◌-◌}
use Rattle.tick_calendar.specs.Wheel.{entries_in, AreAllFrom}
use Rattle.tick_calendar.proofs.wheel.Wheel.skip_empty.Given as goal

abbrev pub invariant-loop-slot : goal.invariant-loop-slot
invariant-loop-slot g l = record {
  from : l.self.slot ≤ l.slot;
  within : l.slot ≤ l.last;
  ahead : AreAllFrom (l.self.base + l.slot) (entries_in l.self.places.items);
}

abbrev pub decreases-loop-slot : goal.decreases-loop-slot
decreases-loop-slot g l = l.last - l.slot
