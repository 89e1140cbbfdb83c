-- What its link is asked is all of the window.
use Rattle.std.proofs.Common.{◌≡◌, ◌∙◌, List, sym, ap, subst, arith}
use Rattle.net_units.specs.Numbers.{link_number}
use Rattle.link_quota.specs.Any.{any_rules, AnyStands}
use Rattle.link_steps.specs.Legal.{AskFits}
use Rattle.link_steps.specs.Lists.{Each}
use Rattle.link_steps.specs.declared.asks.Ask.{Ask}
use Rattle.tick_plane.specs.AskedRuns.{asks_in}
use Rattle.tick_plane.specs.Windows.{window_at}
use Rattle.plane_workers.specs.Answered.{ticks_in}
use Rattle.plane_workers.specs.Tracks.{HasTold}
use Rattle.plane_workers.proofs.BatchReplies.{when-no_err}
use Rattle.plane_workers.proofs.LinkTells.{whole-window}
use Rattle.plane_workers.proofs.track.Track.answer_window.Goals as goal

pub answer_asked-answered-requires-clause-fits : goal.answer_asked-answered-requires-clause-fits
answer_asked-answered-requires-clause-fits g c =
    let own : asks_in c.as_slice.result.now ≡ window_at c.args.number c.args.window.now.until c.args.window.now.at =
    ap asks_in c.as_slice.ensures.value ∙ whole-window c.clear.new.self.items c.asked-asked.new.asked.items (window_at (link_number c.link_of.result) c.args.window.now.until c.args.window.now.at) c.clear.ensures.items (when-no_err c.asked-asked.result c.if-is_err.ensures.value c.asked-asked.ensures)
    ∙ ap (λ n. window_at n c.args.window.now.until c.args.window.now.at) c.link_of.ensures in
    subst (Each (AskFits (any_rules c.args.self.now.link).shape)) (sym own) c.requires.fits

pub answer_asked-answered-requires-clause-early : goal.answer_asked-answered-requires-clause-early
answer_asked-answered-requires-clause-early g c =
    let own : asks_in c.as_slice.result.now ≡ window_at c.args.number c.args.window.now.until c.args.window.now.at =
    ap asks_in c.as_slice.ensures.value ∙ whole-window c.clear.new.self.items c.asked-asked.new.asked.items (window_at (link_number c.link_of.result) c.args.window.now.until c.args.window.now.at) c.clear.ensures.items (when-no_err c.asked-asked.result c.if-is_err.ensures.value c.asked-asked.ensures)
    ∙ ap (λ n. window_at n c.args.window.now.until c.args.window.now.at) c.link_of.ensures in
    let same = ap ticks_in own in
    let early = c.requires.early in
    omega (arith, same, early)

pub returns : goal.returns
returns g c = λ none.
    let own : asks_in c.as_slice.result.now ≡ window_at c.args.number c.args.window.now.until c.args.window.now.at =
    ap asks_in c.as_slice.ensures.value ∙ whole-window c.clear.new.self.items c.asked-asked.new.asked.items (window_at (link_number c.link_of.result) c.args.window.now.until c.args.window.now.at) c.clear.ensures.items (when-no_err c.asked-asked.result c.if-is_err.ensures.value c.asked-asked.ensures)
    ∙ ap (λ n. window_at n c.args.window.now.until c.args.window.now.at) c.link_of.ensures in
    subst (λ (asks : List Ask). HasTold any_rules AnyStands c.args.self.now.link c.answer_asked-answered.new.link asks c.answer_asked-answered.new.told.items) own
    (when-no_err c.answer_asked-answered.result (sym none ∙ c.is_err-self.ensures.value) c.answer_asked-answered.ensures)
