-- The flights of the next round and later ones are left.
use Rattle.std.proofs.Common.{◌≡◌, ◌+◌, None, sym, ap, ◌∙◌, subst, arith}
use Rattle.std.specs.List.{find}
use Rattle.link_steps.specs.Lists.{Each}
use Rattle.tick_calendar.specs.Calendar.{TimetableOf}
use Rattle.tick_plane.specs.declared.flight.OnWay.{OnWay}
use Rattle.tick_plane.specs.Planes.{is_due}
use Rattle.tick_plane.specs.Carried.{AreFlights, IsFrom, flights_at}
use Rattle.tick_plane.proofs.FirstDueFlight.{all-later}
use Rattle.tick_plane.proofs.flights.Flights.begin_round.Goals as goal

pub invariant_of-self : goal.invariant_of-self
invariant_of-self c =
    let none : find (is_due c.self.inside.ways.clock) (flights_at c.self.inside.ways.entries) ≡ None = ap (λ (f : AreFlights). find (is_due f.round) f.list) c.self.view_is ∙ c.requires.none in
    let next : c.self.inside.ways.clock + 1 ≡ c.go_on.new.self.clock = omega (arith, c.clock-round.ensures, ap (λ (s : TimetableOf OnWay). s.clock) c.go_on.ensures) in
    let same = ap (λ (s : TimetableOf OnWay). s.entries) c.go_on.ensures in
    subst (λ es. Each (IsFrom c.go_on.new.self.clock) es) (sym same) (subst (λ n. Each (IsFrom n) c.self.inside.ways.entries) next (all-later c.self.inside.ways.clock c.self.inside.ways.entries c.self.invariant none))
