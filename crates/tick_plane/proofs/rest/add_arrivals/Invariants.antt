use Rattle.std.proofs.Common.{◌≡◌, ◌++◌, map, filter, take}
use Rattle.tick_plane.specs.Planes.{is_due}
use Rattle.tick_plane.specs.Rounds.{arrival_of}
use Rattle.tick_plane.proofs.rest.add_arrivals.Given as goal

-- the arrivals of the flights so far
abbrev pub invariant-loop-flight : goal.invariant-loop-flight
invariant-loop-flight l = l.asks.items ≡ l.initial.asks.items ++ map arrival_of (filter (is_due l.round) (take l.flight-index l.flights))
