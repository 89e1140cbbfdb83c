-- From the start of a round, what is asked in whole rounds with the link's own flights in the order of the rounds.
use Rattle.std.proofs.Common.{◌≡◌, Some, ◌-◌, ◌++◌, List, length, refl, sym, ap, subst, ◌∙◌, arith}
use Rattle.std.proofs.lemmas.Option.{slice_get_read}
use Rattle.std.specs.List.{slice_get}
use Rattle.std.proofs.lemmas.Result.{on_ok_weaker}
use Rattle.link_steps.specs.Lists.{Each}
use Rattle.net_units.specs.Numbers.{link_number}
use Rattle.tick_plane.specs.AskedRuns.{asks_in}
use Rattle.tick_plane.specs.Coming.{AreComing, AreLeft, IsDueBefore, IsDueFrom, rounds_in}
use Rattle.tick_plane.specs.Planes.{Plane}
use Rattle.tick_plane.specs.Windows.{WindowAt, window_at}
use Rattle.tick_plane.specs.declared.flight.Flight.{Flight}
use Rattle.tick_plane.proofs.AskedRuns.{window-whole}
use Rattle.tick_plane.proofs.ComingInOrder.{coming-listed, left-before, own-ahead, own-before}
use Rattle.tick_plane.proofs.window.Window.asked.Goals as goal
use Rattle.tick_plane.proofs.window.Window.asked.Goals.{After-index-own, In_ok-coming}

-- the list of the link is the one at its number
found : (c : After-index-own) → slice_get c.self.inside.coming.items (link_number c.args.link) ≡ Some c.index-own.result.now
found c =
    let lists = c.self.inside.coming.items in
    let long = c.self.invariant.by_link.long in
    ap (slice_get lists) (sym (c.from.ensures ∙ c.get.ensures.value)) ∙ slice_get_read lists (length lists) c.from.result c.index-own.result.now refl (omega (arith, long, c.from.ensures, c.get.ensures.small)) c.index-own.ensures

pub sorted-requires : goal.sorted-requires
sorted-requires c =
    let after = (goal.at.sorted-requires c).After-index-own in
    let at : Plane = c.self.inside.plane.now.at in
    subst (λ round. Each (IsDueFrom round) c.deref.result.now) (sym c.round-round.ensures)
    (subst (Each (IsDueFrom at.round)) (sym c.deref.ensures.value) (own-ahead (λ own. own.items) (link_number c.args.link) c.self.inside.until at c.self.inside.coming.items c.index-own.result.now c.self.invariant (found after)))

-- sorted, all of them are left from the round on
all-left : (c : In_ok-coming) → AreLeft c.self.inside.plane.now.at.round c.index-own.result.now.items c.in_ok-coming.coming.items
all-left c =
    let coming : List Flight = c.in_ok-coming.coming.items in
    subst (λ (fs : List Flight). AreLeft c.self.inside.plane.now.at.round fs coming) c.deref.ensures.value (subst (λ r. AreLeft r c.deref.result.now coming) c.round-round.ensures c.in_ok-coming.ensures)

pub add_asked-requires-clause-due : goal.add_asked-requires-clause-due
add_asked-requires-clause-due c =
    let after = goal.at.add_asked-requires-clause-due c in
    let at : Plane = c.self.inside.plane.now.at in
    let until = c.self.inside.until in
    let own : List Flight = c.index-own.result.now.items in
    let early = c.if-round-self.false in
    let round = c.round-round.ensures in
    subst (Each (IsDueBefore until)) (sym c.deref-2.ensures.value)
    (left-before at.round until own c.in_ok-coming.coming.items (omega (arith, early, round)) (all-left after.In_ok-coming)
    (own-before (λ own. own.items) (link_number c.args.link) until at c.self.inside.coming.items c.index-own.result.now c.self.invariant (found after.After-index-own)))

pub returns : goal.returns
returns c =
    let after = goal.at.returns c in
    let n = link_number c.args.link in
    let at : Plane = c.self.inside.plane.now.at in
    let until = c.self.inside.until in
    let coming : List Flight = c.in_ok-coming.coming.items in
    let round = c.round-round.ensures in
    let early = c.if-round-self.false in
    let are : AreComing n at.round until at.flights coming = coming-listed (λ own. own.items) n until at c.self.inside.coming.items c.index-own.result.now coming c.self.invariant (found after.After-index-own) (all-left after.In_ok-coming) in
    let starts : at.ticked ≡ 0 = ap (λ (w : WindowAt). w.at.ticked) c.self.view_is ∙ c.requires.starts in
    on_ok_weaker c.add_asked.result (λ asked.
    asked
    ∙ ap (λ (fs : List Flight). asks_in c.args.asked.now.items ++ rounds_in c.round-round.result (until - c.round-round.result) fs) c.deref-2.ensures.value
    ∙ ap (λ r. asks_in c.args.asked.now.items ++ rounds_in r (until - r) coming) round
    ∙ ap (λ asks. asks_in c.args.asked.now.items ++ asks) (sym (window-whole n until at coming starts (omega (arith, early, round)) are))
    ∙ ap (λ (w : WindowAt). asks_in c.args.asked.now.items ++ window_at n w.until w.at) c.self.view_is) c.add_asked.ensures
