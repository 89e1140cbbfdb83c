-- No entry of the calendar falls due before it.
use Rattle.std.proofs.Common.{◌≤◌, ap, subst}
use Rattle.link_steps.specs.Lists.{Each}
use Rattle.tick_plane.specs.Carried.{AreFlights}
use Rattle.tick_plane.specs.Coming.{IsDueFrom}
use Rattle.tick_plane.proofs.QuietRounds.{from-entries}
use Rattle.tick_plane.proofs.FirstDueFlight.{each-all}
use Rattle.tick_plane.proofs.flights.Flights.none_before.Goals as goal

pub returns : goal.returns
returns c =
    let until = c.rests_until.result in
    subst (Each (IsDueFrom until)) (ap (λ (f : AreFlights). f.list) c.self.view_is)
    (from-entries until c.self.inside.ways.entries (each-all (λ entry. until ≤ entry.0) c.self.inside.ways.entries c.rests_until.ensures))
