-- The arrivals of the first round, the tick that is left of it, and then the rounds after it.
use Rattle.std.proofs.Common.{◌≡◌, [], ◌∷◌, Some, suc, ◌+◌, ◌-◌, ◌++◌, List, length, drop, refl, sym, ap, subst, ◌∙◌, arith}
use Rattle.std.proofs.lemmas.Option.{slice_get_read}
use Rattle.std.specs.List.{slice_get}
use Rattle.std.specs.Prelude.{nat_lt, if◌then◌else◌}
use Rattle.std.proofs.lemmas.Result.{on_ok_weaker}
use Rattle.link_steps.specs.Lists.{Each}
use Rattle.link_steps.specs.declared.asks.Ask.TheVariants.{Tick}
use Rattle.net_units.specs.Numbers.{link_number}
use Rattle.tick_plane.specs.Coming.{AreComing, AreLeft, IsDueFrom, arrivals_in, rounds_in}
use Rattle.tick_plane.specs.Planes.{Plane}
use Rattle.tick_plane.specs.Windows.{WindowAt, window_at}
use Rattle.tick_plane.specs.declared.flight.Flight.{Flight}
use Rattle.tick_plane.proofs.ComingInOrder.{coming-listed, own-ahead, window-is}
use Rattle.tick_plane.proofs.window.Window.asks.Goals as goal

pub sorted-requires : goal.sorted-requires
sorted-requires c =
    let n = link_number c.args.link in
    let lists = c.self.inside.coming.items in
    let at : Plane = c.self.inside.plane.now.at in
    let same = c.from.ensures ∙ c.get.ensures.value in
    let long = c.self.invariant.by_link.long in
    let found : slice_get lists n ≡ Some c.index-own.result.now = ap (slice_get lists) (sym same) ∙ slice_get_read lists (length lists) c.from.result c.index-own.result.now refl (omega (arith, long, c.from.ensures, c.get.ensures.small)) c.index-own.ensures in
    subst (λ round. Each (IsDueFrom round) c.deref.result.now) (sym c.round-round.ensures)
    (subst (Each (IsDueFrom at.round)) (sym c.deref.ensures.value) (own-ahead (λ own. own.items) n c.self.inside.until at lists c.index-own.result.now c.self.invariant found))

pub returns : goal.returns
returns c =
    let n = link_number c.args.link in
    let lists = c.self.inside.coming.items in
    let at : Plane = c.self.inside.plane.now.at in
    let until = c.self.inside.until in
    let next = c.in_ok-next.next in
    let same = c.from.ensures ∙ c.get.ensures.value in
    let long = c.self.invariant.by_link.long in
    let found : slice_get lists n ≡ Some c.index-own.result.now = ap (slice_get lists) (sym same) ∙ slice_get_read lists (length lists) c.from.result c.index-own.result.now refl (omega (arith, long, c.from.ensures, c.get.ensures.small)) c.index-own.ensures in
    let coming : List Flight = c.in_ok-coming.coming.items in
    let round = c.round-round.ensures in
    let all : AreLeft at.round c.index-own.result.now.items coming =
    subst (λ (fs : List Flight). AreLeft at.round fs coming) c.deref.ensures.value (subst (λ r. AreLeft r c.deref.result.now coming) round c.in_ok-coming.ensures) in
    let are : AreComing n at.round until at.flights coming = coming-listed (λ own. own.items) n until at lists c.index-own.result.now coming c.self.invariant found all in
    let left : AreLeft (suc at.round) coming (drop next coming) =
    subst (λ r. AreLeft (suc r) coming (drop next coming)) round (subst (λ (fs : List Flight). AreLeft (suc c.round-round.result) fs (drop next fs)) c.deref-2.ensures.value c.in_ok-next.ensures.left) in
    on_ok_weaker c.add_rounds.result (λ asked.
    window-is n until at (let early = c.if-round-self.false in omega (arith, early, round)) coming (drop next coming) are left (c.round-round.result + 1) (omega (arith, round)) c.args.asks.now.items c.add_arrivals.new.asks.items c.add_tick.new.asks.items c.add_rounds.new.asks.items
    (c.in_ok-next.ensures.asks ∙ ap (λ (fs : List Flight). c.args.asks.now.items ++ arrivals_in c.round-round.result fs) c.deref-2.ensures.value ∙ ap (λ r. c.args.asks.now.items ++ arrivals_in r coming) round)
    (c.in_ok-add_tick.ensures ∙ ap (λ t. c.add_arrivals.new.asks.items ++ (if nat_lt n t then [] else Tick ∷ [])) c.ticked.ensures)
    (asked ∙ ap (λ (fs : List Flight). c.add_tick.new.asks.items ++ rounds_in (c.round-round.result + 1) (until - (c.round-round.result + 1)) (drop next fs)) c.deref-3.ensures.value)
    ∙ ap (λ (w : WindowAt). c.args.asks.now.items ++ window_at n w.until w.at) c.self.view_is) c.add_rounds.ensures
