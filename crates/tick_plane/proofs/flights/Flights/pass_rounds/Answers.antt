-- The flights of that round and later ones are left.
use Rattle.std.proofs.Common.{◌≡◌, ◌+◌, sym, ap, subst, arith}
use Rattle.link_steps.specs.Lists.{Each}
use Rattle.tick_calendar.specs.Calendar.{TimetableOf}
use Rattle.tick_plane.specs.declared.flight.OnWay.{OnWay}
use Rattle.tick_plane.specs.Carried.{AreFlights, IsFrom, flights_at}
use Rattle.tick_plane.specs.Coming.{IsDueFrom}
use Rattle.tick_plane.proofs.QuietRounds.{of-flights}
use Rattle.tick_plane.proofs.flights.Flights.pass_rounds.Goals as goal

pub invariant_of-self : goal.invariant_of-self
invariant_of-self c =
    let none : Each (IsDueFrom (c.self.inside.ways.clock + c.args.rounds)) (flights_at c.self.inside.ways.entries) = subst (λ (f : AreFlights). Each (IsDueFrom (f.round + c.args.rounds)) f.list) (sym c.self.view_is) c.requires.none in
    let next : c.self.inside.ways.clock + c.args.rounds ≡ c.go_on.new.self.clock = omega (arith, c.clock.ensures, ap (λ (s : TimetableOf OnWay). s.clock) c.go_on.ensures) in
    let same = ap (λ (s : TimetableOf OnWay). s.entries) c.go_on.ensures in
    subst (λ es. Each (IsFrom c.go_on.new.self.clock) es) (sym same) (subst (λ n. Each (IsFrom n) c.self.inside.ways.entries) next (of-flights (c.self.inside.ways.clock + c.args.rounds) c.self.inside.ways.entries none))
