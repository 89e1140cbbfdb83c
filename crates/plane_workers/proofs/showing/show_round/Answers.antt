-- One more link has told its tick or tells nothing in it, and then all have.
use Rattle.std.proofs.Common.{◌≡◌, ◌<◌, length, refl, sym, ap, ◌∙◌, arith}
use Rattle.std.proofs.lemmas.Option.{same_Some}
use Rattle.run_engine.proofs.Keeping.Lookups.{found-at}
use Rattle.plane_workers.specs.Tracks.{next_clock, track_left}
use Rattle.plane_workers.specs.declared.track.Track.{Track}
use Rattle.plane_workers.proofs.WindowShown.{next-round, passes-place}
use Rattle.plane_workers.proofs.showing.show_round.Goals as goal
use Rattle.plane_workers.proofs.showing.show_round.Goals.{then-next_clock-round+in_ok-show, else-next_clock-round}

pub show-requires-clause-shows : goal.show-requires-clause-shows
show-requires-clause-shows g c = (c.requires.shows.0, c.loop-place.invariant.shows c.requires.shows.0 c.requires.shows.1)

pub show-requires-clause-told : goal.show-requires-clause-told
show-requires-clause-told g c = λ track found.
    let read = c.index-tracks-place.result in
    let inside : c.loop-place.place < length c.loop-place.tracks = (let long = c.loop-place.invariant.long in let below = c.loop-place-test.true in omega (arith, long, below)) in
    let same : read ≡ track = same_Some read track (sym (found-at c.loop-place.tracks c.loop-place.tracks c.loop-place.place c.loop-place.place read refl refl inside c.index-tracks-place.is) ∙ found) in
    ap (λ (t : Track). next_clock (track_left t)) (sym same ∙ c.index-tracks-place.is) ∙ sym c.next_clock.ensures ∙ c.if-next_clock-round.true

pub loop-place-preserved : goal.loop-place-preserved
loop-place-preserved g c =
    elim c.if-next_clock-round.branch [
      | then-next_clock-round+in_ok-show w ↦ record {
        shows = λ past is. rw (w.tracks-is, w.plane-is, w.watch-is) (w.in_ok-show.ensures.shows past (c.loop-place.invariant.shows past is));
        long = ap length w.tracks-is ∙ w.in_ok-show.ensures.long ∙ c.loop-place.invariant.long;
        at = rw w.plane-is (w.in_ok-show.ensures.round ∙ c.loop-place.invariant.at);
        rounds = rw w.plane-is (w.in_ok-show.ensures.rounds ∙ c.loop-place.invariant.rounds);
        table = rw w.watch-is (w.in_ok-show.ensures.table ∙ c.loop-place.invariant.table);
      }
      | else-next_clock-round w ↦ record {
        shows = λ past is. rw (w.tracks-is, w.plane-is, w.watch-is)
            (let read = c.index-tracks-place.result in
            let inside : c.loop-place.place < length c.loop-place.tracks = (let long = c.loop-place.invariant.long in let below = c.loop-place-test.true in omega (arith, long, below)) in
            passes-place g.W.Watch.saw g.W.Watch.lags c.requires.laws c.args.plan.now c.args.until c.args.round c.loop-place.place c.loop-place.tracks c.loop-place.plane c.loop-place.watch past (c.loop-place.invariant.shows past is) inside c.requires.early
            (λ track found due.
            let same : read ≡ track = same_Some read track (sym (found-at c.loop-place.tracks c.loop-place.tracks c.loop-place.place c.loop-place.place read refl refl inside c.index-tracks-place.is) ∙ found) in
            w.if-next_clock-round.false (c.next_clock.ensures ∙ ap (λ (t : Track). next_clock (track_left t)) (sym c.index-tracks-place.is ∙ same) ∙ due)));
        long = ap length w.tracks-is ∙ c.loop-place.invariant.long;
        at = rw w.plane-is c.loop-place.invariant.at;
        rounds = rw w.plane-is c.loop-place.invariant.rounds;
        table = rw w.watch-is c.loop-place.invariant.table;
      }
    ]

pub returns-clause-shows : goal.returns-clause-shows
returns-clause-shows g c = λ past is.
    let long = c.loop-place.invariant.long in
    let over = c.loop-place-test.false in
    let most = c.loop-place.auto.place-end in
    next-round g.W.Watch.lags c.args.plan.now c.args.until c.loop-place.tracks c.loop-place.plane c.loop-place.watch past c.args.round c.loop-place.place (omega (arith, long, over)) (omega (arith, long, most)) (c.loop-place.invariant.shows past is)
