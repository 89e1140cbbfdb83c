-- What is due first in the calendar is taken out of it.
use Rattle.std.proofs.Common.{◌≡◌, ◌+◌, if◌then◌else◌, is_some, Option, Some, sym, ap, ◌∙◌, subst}
use Rattle.std.specs.List.{find}
use Rattle.std.specs.Prelude.{IsSome}
use Rattle.link_steps.specs.Lists.{Each, without_first}
use Rattle.tick_plane.specs.declared.flight.OnWay.{OnWay}
use Rattle.tick_plane.specs.Planes.{is_due}
use Rattle.tick_plane.specs.Carried.{AreFlights, IsFrom, flights_at}
use Rattle.tick_plane.proofs.FirstDueFlight.{Lands, some-due, taken-is, lands-taken, left-landed, from-left}
use Rattle.tick_plane.proofs.flights.Flights.land.Goals as goal
use Rattle.tick_plane.proofs.flights.Flights.land.Goals.{After-take}

taken : (c : After-take) → (way : OnWay) × (c.take.result ≡ Some way)
taken c = taken-is c.take.result (some-due c.self.inside.ways.clock c.self.inside.ways.entries c.take.result c.take.ensures.none.0 (subst (λ (f : AreFlights). IsSome (find (is_due f.round) f.list)) (sym c.self.view_is) c.requires))

landed : (c : After-take) → Lands c.self.inside.ways.clock (taken c).0 c.self.inside.ways.entries c.take.new.self.entries
landed c = lands-taken c.self.inside.ways.clock (taken c).0 c.self.inside.ways.entries c.take.new.self.entries c.take.result c.self.invariant (taken c).1 c.take.ensures.taken

pub invariant_of-self : goal.invariant_of-self
invariant_of-self c =
    let after = (goal.at.invariant_of-self c).After-take in
    subst (λ t. Each (IsFrom t) c.take.new.self.entries) (sym c.take.ensures.clock) (from-left c.self.inside.ways.clock (taken after).0 c.self.inside.ways.entries c.take.new.self.entries (landed after) c.self.invariant)

pub returns : goal.returns
returns c =
    let after = (goal.at.returns c).After-take in
    let now : c.take.new.self.clock ≡ c.args.self.now.round = c.take.ensures.clock ∙ ap (λ (f : AreFlights). f.round) c.self.view_is in
    let spare = ap (λ (f : AreFlights). f.spare) c.self.view_is in
    let flown : flights_at c.take.new.self.entries ≡ without_first (is_due c.args.self.now.round) c.args.self.now.list =
    sym (left-landed c.self.inside.ways.clock (taken after).0 c.self.inside.ways.entries c.take.new.self.entries (landed after))
    ∙ ap (λ (f : AreFlights). without_first (is_due f.round) f.list) c.self.view_is in
    let more : c.take.new.self.spare ≡ c.args.self.now.spare + 1 =
    c.take.ensures.spare ∙ ap (λ (t : Option OnWay). c.self.inside.ways.spare + (if is_some t then 1 else 0)) (taken after).1 ∙ ap (λ n. n + 1) spare in
    λ i. record { list = flown i; round = now i; spare = more i }
