-- The entries that are kept are those of the flights that are due before the round.
use Rattle.std.proofs.Common.{◌≡◌, ap, sym, subst, ◌∙◌, rules, tests}
use Rattle.std.proofs.lemmas.Fn.{filter_same}
use Rattle.std.specs.List.{filter}
use Rattle.std.specs.Prelude.{nat_lt}
use Rattle.std.proofs.lemmas.Result.{IfOk-weaker}
use Rattle.link_steps.proofs.SearchAndFilter.{Each-filter}
use Rattle.link_steps.specs.Lists.{Each}
use Rattle.tick_plane.specs.Carried.{AreFlights, Way, IsFrom}
use Rattle.tick_plane.specs.Coming.{IsDueFrom, is_before}
use Rattle.tick_plane.proofs.QuietRounds.{from-entries}
use Rattle.tick_plane.proofs.ComingInOrder.{flights-before}
use Rattle.tick_plane.proofs.flights.Flights.due_before.Goals as goal

pub returns-clause-due : goal.returns-clause-due
returns-clause-due c =
    let early : Way → _ = λ (entry : Way). nat_lt entry.0 c.args.until in
    let kept : c.retain.new.self.items ≡ filter early c.self.inside.ways.entries =
    filter_same _ early _ (λ entry b f k. search (rules, tests)) c.in_ok-entries.entries.items c.retain.new.self.items c.retain.ensures.filtered ∙ ap (filter early) c.in_ok-entries.ensures in
    IfOk-weaker c.listed.result _ _ (λ due is.
    is ∙ flights-before c.args.until c.self.inside.ways.entries c.deref.result.now (c.deref.ensures.value ∙ kept)
    ∙ ap (λ (f : AreFlights). filter (is_before c.args.until) f.list) c.self.view_is) c.listed.ensures

pub returns-clause-ahead : goal.returns-clause-ahead
returns-clause-ahead c =
    let early : Way → _ = λ (entry : Way). nat_lt entry.0 c.args.until in
    let kept : c.retain.new.self.items ≡ filter early c.self.inside.ways.entries =
    filter_same _ early _ (λ entry b f k. search (rules, tests)) c.in_ok-entries.entries.items c.retain.new.self.items c.retain.ensures.filtered ∙ ap (filter early) c.in_ok-entries.ensures in
    let round = c.self.inside.ways.clock in
    let ahead : Each (IsFrom round) c.deref.result.now =
    subst (Each (IsFrom round)) (sym (c.deref.ensures.value ∙ kept)) (Each-filter (IsFrom round) early c.self.inside.ways.entries c.self.invariant) in
    IfOk-weaker c.listed.result _ _ (λ due is.
    subst (λ (r : _). Each (IsDueFrom r) due.items) (ap (λ (f : AreFlights). f.round) c.self.view_is)
    (subst (Each (IsDueFrom round)) (sym is) (from-entries round c.deref.result.now ahead))) c.listed.ensures
