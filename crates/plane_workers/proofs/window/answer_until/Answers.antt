-- The window is that of the plane.
use Rattle.std.proofs.Common.{◌≡◌, ◌+◌, ◌<◌, ◌^◌, ℕ, Some, refl, sym, subst}
use Rattle.std.specs.List.{slice_get}
use Rattle.link_steps.specs.Legal.{AskFits}
use Rattle.link_steps.specs.Lists.{Each}
use Rattle.tick_plane.specs.Windows.{WindowAt, window_at}
use Rattle.plane_workers.specs.Answered.{IsAnswered, ticks_in}
use Rattle.link_quota.specs.Any.{any_clock, any_rules, AnyStands}
use Rattle.plane_workers.specs.Lanes.{lane_left}
use Rattle.plane_workers.specs.declared.lane.Lane.{Lane}
use Rattle.plane_workers.proofs.window.answer_until.Goals as goal

pub answer_windows-requires-clause-fits : goal.answer_windows-requires-clause-fits
answer_windows-requires-clause-fits g c κs within =
    subst (λ (w : WindowAt). (n : ℕ) (d : Lane) → slice_get c.args.lanes.now n ≡ Some d → Each (AskFits (any_rules d.link).shape) (window_at n w.until w.at)) (sym c.in_ok-window.ensures) c.requires.fits

pub answer_windows-requires-clause-early : goal.answer_windows-requires-clause-early
answer_windows-requires-clause-early g c κs within =
    subst (λ (w : WindowAt). (n : ℕ) (d : Lane) → slice_get c.args.lanes.now n ≡ Some d → any_clock d.link + ticks_in (window_at n w.until w.at) < 2 ^ 61) (sym c.in_ok-window.ensures) c.requires.early

pub returns-clause-answered : goal.returns-clause-answered
returns-clause-answered g c = λ n x y found after.
    let is = c.answer_windows.ensures.answered n x y found after (c.if-any_wanted.ensures refl n y after) in
    subst (λ (w : WindowAt). IsAnswered any_rules AnyStands x.link y.link (window_at n w.until w.at) (lane_left y)) c.in_ok-window.ensures is
