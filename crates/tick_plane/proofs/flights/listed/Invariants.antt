use Rattle.std.proofs.Common.{◌≡◌, take}
use Rattle.tick_plane.specs.Carried.{flights_at}
use Rattle.tick_plane.proofs.flights.listed.Given as goal

-- the flights of the entries so far
abbrev pub invariant-loop-entry : goal.invariant-loop-entry
invariant-loop-entry l = l.all.items ≡ flights_at (take l.entry-index l.entries)
