use Rattle.std.proofs.Common.{◌≡◌, ◌≤◌, filter, length}
use Rattle.tick_plane.specs.Carried.{flights_at}
use Rattle.tick_plane.specs.Coming.{is_from}
use Rattle.tick_plane.proofs.flights.drop_due.Given as goal

-- the round hasn't begun, and none that is due from then on is gone
abbrev pub invariant-loop : goal.invariant-loop
invariant-loop l = record {
  early : l.ways.clock ≤ l.last;
  left : filter (is_from l.until) (flights_at l.ways.entries) ≡ filter (is_from l.until) (flights_at l.initial.ways.entries);
}

abbrev pub decreases-loop : goal.decreases-loop
decreases-loop l = length l.ways.entries
