-- When none is due any more before the round, those that are left are due from then on.
use Rattle.std.proofs.Common.{◌≡◌, ◌-◌, ap, sym, subst, ◌∙◌, arith}
use Rattle.link_steps.specs.Lists.{Each}
use Rattle.tick_calendar.specs.Calendar.{TimetableOf}
use Rattle.tick_plane.specs.declared.flight.OnWay.{OnWay}
use Rattle.tick_plane.specs.Carried.{IsFrom, flights_at}
use Rattle.tick_plane.proofs.LaterFlights.{entries-from, none-early, none-gone}
use Rattle.tick_plane.proofs.flights.drop_due.Goals as goal
use Rattle.tick_plane.proofs.flights.drop_due.Goals.{After-go_on}

left : (c : After-go_on) → c.go_on.new.self.entries ≡ c.loop.ways.entries
left c =
    ap (λ (s : TimetableOf OnWay). s.entries) c.go_on.ensures
    ∙ none-gone (c.args.until - 1) c.loop.ways.entries c.take_due.new.self.entries c.take_due.result (sym c.is_some.ensures ∙ c.loop-test.false) c.take_due.ensures.stay

ahead : (c : After-go_on) → Each (IsFrom c.args.until) c.loop.ways.entries
ahead c = none-early (c.args.until - 1) c.loop.ways.entries c.take_due.new.self.entries c.args.until c.take_due.result (omega arith) (sym c.is_some.ensures ∙ c.loop-test.false) c.take_due.ensures.none.0

pub returns-then-clock-until-clause-left : goal.returns-then-clock-until-clause-left
returns-then-clock-until-clause-left c =
    sym (entries-from c.args.until c.args.ways.now.entries (subst (λ r. Each (IsFrom r) c.args.ways.now.entries) (sym c.clock.ensures ∙ c.if-clock-until.true) c.requires.punctual))

pub returns-clause-punctual : goal.returns-clause-punctual
returns-clause-punctual c =
    let after = (goal.at.returns-clause-punctual c).After-go_on in
    subst (λ r. Each (IsFrom r) c.go_on.new.self.entries) (sym (ap (λ (s : TimetableOf OnWay). s.clock) c.go_on.ensures))
    (subst (Each (IsFrom c.args.until)) (sym (left after)) (ahead after))

pub returns-clause-left : goal.returns-clause-left
returns-clause-left c =
    let after = (goal.at.returns-clause-left c).After-go_on in
    ap flights_at (left after) ∙ sym (entries-from c.args.until c.loop.ways.entries (ahead after)) ∙ c.loop.invariant.left
