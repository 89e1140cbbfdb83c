-- The window is that of the plane.
use Rattle.std.proofs.Common.{◌≡◌, ◌+◌, ◌<◌, ◌^◌, ℕ, Some, refl, sym, ap, ◌∙◌, subst}
use Rattle.std.specs.List.{slice_get}
use Rattle.link_steps.specs.Legal.{AskFits}
use Rattle.link_steps.specs.Lists.{Each}
use Rattle.tick_plane.specs.Windows.{WindowAt, window_at}
use Rattle.plane_workers.specs.Answered.{ticks_in}
use Rattle.link_quota.specs.Any.{any_clock, any_rules, AnyStands}
use Rattle.plane_workers.specs.Tracks.{HasTold, track_left}
use Rattle.plane_workers.specs.declared.track.Track.{Track}
use Rattle.plane_workers.proofs.showing.tell_until.Goals as goal

pub tell_windows-requires-clause-starts : goal.tell_windows-requires-clause-starts
tell_windows-requires-clause-starts g c κs within = ap (λ (w : WindowAt). w.at.ticked) c.in_ok-window.ensures ∙ c.requires.starts

pub tell_windows-requires-clause-fits : goal.tell_windows-requires-clause-fits
tell_windows-requires-clause-fits g c κs within =
    subst (λ (w : WindowAt). (n : ℕ) (d : Track) → slice_get c.args.tracks.now n ≡ Some d → Each (AskFits (any_rules d.link).shape) (window_at n w.until w.at)) (sym c.in_ok-window.ensures) c.requires.fits

pub tell_windows-requires-clause-early : goal.tell_windows-requires-clause-early
tell_windows-requires-clause-early g c κs within =
    subst (λ (w : WindowAt). (n : ℕ) (d : Track) → slice_get c.args.tracks.now n ≡ Some d → any_clock d.link + ticks_in (window_at n w.until w.at) < 2 ^ 61) (sym c.in_ok-window.ensures) c.requires.early

pub returns-clause-told : goal.returns-clause-told
returns-clause-told g c = λ n x y found after.
    let is = c.tell_windows.ensures.told n x y found after (c.if-any_wanted.ensures refl n y after) in
    subst (λ (w : WindowAt). HasTold any_rules AnyStands x.link y.link (window_at n w.until w.at) (track_left y)) c.in_ok-window.ensures is
