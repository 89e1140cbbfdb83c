-- The places from the index on are in their chains, and the entries are as they were.
use Rattle.std.proofs.Common.{◌≡◌, ◌≤◌, true, length, drop}
use Rattle.std.specs.List.{All}
use Rattle.std.specs.Vec.{vec_capacity}
use Rattle.tick_calendar.specs.Wheel.{entries_in, IsWheelFrom}
use Rattle.tick_calendar.proofs.wheel.Wheel.turn.Given as goal

abbrev pub invariant-loop-index : goal.invariant-loop-index
invariant-loop-index g l = record {
  wheel : IsWheelFrom l.index (drop l.index l.self.places.items) l.self.firsts.items l.self.lasts.items l.self.base;
  within : l.index ≤ length l.self.places.items;
  waits : All (λ place. place.waits ≡ true) l.self.places.items;
  ahead : All (λ place. l.self.base ≤ place.tick) l.self.places.items;
  entries : entries_in l.self.places.items ≡ entries_in l.fn.self.places.items;
  capacity : vec_capacity l.self.places ≡ vec_capacity l.fn.self.places;
  base : l.self.base ≡ l.base;
  slot : l.self.slot ≡ 0;
}

abbrev pub decreases-loop-index : goal.decreases-loop-index
decreases-loop-index g l = l.index
