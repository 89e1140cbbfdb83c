-- Each track is that of its number.
use Rattle.std.proofs.Common.{◌≡◌, false, refl, ◌∙◌, arith, subst}
use Rattle.std.proofs.lemmas.Option.{get_or_from_slice_get, slice_get_within}
use Rattle.link_quota.specs.Any.{any_rules, AnyStands}
use Rattle.tick_plane.specs.Windows.{window_at}
use Rattle.run_engine.proofs.Keeping.Lookups.{found-at}
use Rattle.plane_workers.specs.Tracks.{HasTold, track_left}
use Rattle.plane_workers.specs.declared.track.Track.{Track}
use Rattle.plane_workers.proofs.showing.tell_windows.Goals as goal

pub for_each_mut-requires-clause-accepts : goal.for_each_mut-requires-clause-accepts
for_each_mut-requires-clause-accepts g c κs within = λ i p inside is.
    let found = found-at c.args.tracks.now c.args.tracks.now i i p.now refl refl inside is in
    ((let few = c.requires.few in omega (arith, inside, few)), c.requires.starts, c.requires.stand i p.now found, c.requires.fits i p.now found, c.requires.early i p.now found)

pub returns-clause-told : goal.returns-clause-told
returns-clause-told g c = λ n x y found after.
    let is = (c.for_each_mut.ensures n x (slice_get_within c.args.tracks.now n x found)).1 in
    let was : is.argument.now ≡ x = is.argument_is ∙ get_or_from_slice_get c.args.tracks.now n x x found in
    let now : is.after_call.now ≡ y = is.left ∙ get_or_from_slice_get c.for_each_mut.new.s n y x after in
    subst (λ (w : Track × Track). w.1.wanted ≡ false → HasTold any_rules AnyStands w.0.link w.1.link (window_at n c.args.window.now.until c.args.window.now.at) (track_left w.1)) (λ i. (was i, now i)) is.call
