-- Something is due in the calendar exactly where a flight is.
use Rattle.std.proofs.Common.{is_some, ap, ◌∙◌}
use Rattle.std.specs.List.{find}
use Rattle.tick_plane.specs.Planes.{is_due}
use Rattle.tick_plane.specs.Carried.{AreFlights}
use Rattle.tick_plane.proofs.FirstDueFlight.{due-told}
use Rattle.tick_plane.proofs.flights.Flights.has_due.Goals as goal

pub returns : goal.returns
returns c =
    c.is_some.ensures ∙ due-told c.self.inside.ways c.due.result c.self.invariant c.due.ensures.key c.due.ensures.none.0
    ∙ ap (λ (f : AreFlights). is_some (find (is_due f.round) f.list)) c.self.view_is
