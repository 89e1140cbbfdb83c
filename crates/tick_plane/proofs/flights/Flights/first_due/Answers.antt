-- What is due in the calendar tells the first flight that is due.
use Rattle.std.proofs.Common.{Some, sym, ap, ◌∙◌}
use Rattle.std.specs.Prelude.{option_copied}
use Rattle.std.specs.List.{find}
use Rattle.tick_plane.specs.Planes.{is_due}
use Rattle.tick_plane.specs.Carried.{AreFlights, flight_at}
use Rattle.tick_plane.specs.declared.flight.OnWay.{OnWay}
use Rattle.tick_plane.proofs.FirstDueFlight.{none-told, one-told}
use Rattle.tick_plane.proofs.flights.Flights.first_due.Goals as goal

pub returns-in_err-way : goal.returns-in_err-way
returns-in_err-way c =
    let seen = ap (λ (f : AreFlights). find (is_due f.round) f.list) c.self.view_is in
    c.from_residual.ensures ∙ sym (none-told c.self.inside.ways c.due.result c.self.invariant c.due.ensures.key c.due.ensures.none.0 c.in_err-way.was) ∙ seen

pub returns : goal.returns
returns c =
    let seen = ap (λ (f : AreFlights). find (is_due f.round) f.list) c.self.view_is in
    let way : OnWay = c.in_ok-way.way.now in
    let found = one-told c.self.inside.ways c.due.result way c.self.invariant c.due.ensures.key c.due.ensures.none.0 (ap option_copied c.in_ok-way.was) in
    ap (λ n. Some (flight_at (n, way))) c.clock.ensures ∙ sym found ∙ seen
