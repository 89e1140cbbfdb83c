-- The flight is the last entry, and isn't due in the round at hand.
use Rattle.std.proofs.Common.{◌≡◌, ◌-◌, ◌++◌, ◌∷◌, [], List, sym, ap, ◌∙◌, subst, arith}
use Rattle.std.proofs.lemmas.List.{map-append}
use Rattle.tick_calendar.specs.Calendar.{TimetableOf}
use Rattle.tick_plane.specs.declared.flight.Flight.{Flight}
use Rattle.tick_plane.specs.declared.flight.OnWay.{OnWay}
use Rattle.tick_plane.specs.Carried.{AreFlights, Way, ArePunctual, flight_at, flights_at}
use Rattle.tick_plane.proofs.FirstDueFlight.{punctual-put}
use Rattle.tick_plane.proofs.flights.Flights.put.Goals as goal

pub put-requires-clause-ahead : goal.put-requires-clause-ahead
put-requires-clause-ahead c =
    let now = ap (λ (f : AreFlights). f.round) c.self.view_is in
    let later = c.requires.later in
    omega (arith, now, later)

pub invariant_of-self : goal.invariant_of-self
invariant_of-self c =
    let now = ap (λ (f : AreFlights). f.round) c.self.view_is in
    let later = c.requires.later in
    subst ArePunctual (sym c.put.ensures) (punctual-put c.self.inside.ways c.args.flight.round (record { to = c.args.flight.to; packet = c.args.flight.packet }) (omega (arith, now, later)) c.self.invariant)

pub returns : goal.returns
returns c =
    let entries : List Way = c.self.inside.ways.entries in
    let way : OnWay = record { to = c.args.flight.to; packet = c.args.flight.packet } in
    let list = ap (λ (f : AreFlights). f.list) c.self.view_is in
    let now = ap (λ (f : AreFlights). f.round) c.self.view_is in
    let spare = ap (λ (f : AreFlights). f.spare) c.self.view_is in
    let more = ap (λ (s : TimetableOf OnWay). s.entries) c.put.ensures in
    let clock = ap (λ (s : TimetableOf OnWay). s.clock) c.put.ensures in
    let flown : flights_at c.put.new.self.entries ≡ c.args.self.now.list ++ c.args.flight ∷ [] =
    ap flights_at more ∙ map-append flight_at entries ((c.args.flight.round, way) ∷ []) ∙ ap (λ (fs : List Flight). fs ++ c.args.flight ∷ []) list in
    let same : c.put.new.self.clock ≡ c.args.self.now.round = clock ∙ now in
    let less : c.put.new.self.spare ≡ c.args.self.now.spare - 1 = ap (λ (s : TimetableOf OnWay). s.spare) c.put.ensures ∙ ap (λ n. n - 1) spare in
    λ i. record { list = flown i; round = same i; spare = less i }
