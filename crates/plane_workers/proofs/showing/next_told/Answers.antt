-- It stands where those that are shown end.
use Rattle.std.proofs.Common.{◌≡◌, ◌+◌, ◌<◌, ◌∷◌, drop, length, refl, sym, ap, ◌∙◌, subst}
use Rattle.std.proofs.lemmas.List.{drop_more}
use Rattle.std.proofs.lemmas.Option.{same_Some}
use Rattle.run_engine.proofs.Keeping.Lookups.{found-at}
use Rattle.plane_workers.specs.Tracks.{track_left}
use Rattle.plane_workers.specs.declared.track.Track.{Track}
use Rattle.plane_workers.proofs.showing.next_told.Goals as goal

pub returns : goal.returns
returns c = λ track found.
    let read = c.index-tracks-place.result in
    let same : read ≡ track = same_Some read track (sym (found-at c.args.tracks.now c.args.tracks.now c.args.place c.args.place read refl refl c.requires.inside c.index-tracks-place.is) ∙ found) in
    let left = c.requires.left track found in
    let within = subst (λ (t : Track). t.shown < length t.told.items) (sym same) left in
    subst (λ (t : Track). track_left t ≡ c.index.result.now ∷ drop (t.shown + 1) t.told.items) same
    (drop_more read.told.items read.shown c.index.result.now within ∙ ap (λ reply. reply ∷ drop (read.shown + 1) read.told.items) (sym c.index.ensures))
