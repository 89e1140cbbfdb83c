-- The links go to tracks, and come back from them.
use Rattle.std.proofs.Common.{◌≡◌, length, map, ap, ◌∙◌, arith}
use Rattle.std.proofs.lemmas.List.{with_items_is}
use Rattle.tick_plane.specs.PlaneAccount.{PlaneAccount}
use Rattle.plane_workers.specs.declared.track.Track.{Track}
use Rattle.plane_workers.proofs.LinksAtDesks.{engine-again, plane-actor, seen-first}
use Rattle.plane_workers.proofs.rounds.make_lagging.Goals as goal

pub show_windows-requires-clause-between : goal.show_windows-requires-clause-between
show_windows-requires-clause-between g c κs within = (
  c.requires.stand.0,
  seen-first (λ (d : Track). d.link) g.W.Watch.saw c.args.job.now.plan.now c.args.engine c.args.job.now.gap c.into_parts-links.result.0.items c.into_parts-links.result.1 c.deref_mut.result.now c.args.watch.now c.requires.stand.0 c.requires.stand.1
      (ap (λ links. links.items) c.into_parts-links.ensures.links) c.into_parts-links.ensures.plane (ap (map (λ (d : Track). d.link)) c.deref_mut.ensures.value ∙ c.in_ok-tracks.ensures) c.requires.job.keeps,
)

pub show_windows-requires-clause-early : goal.show_windows-requires-clause-early
show_windows-requires-clause-early g c κs within = (let same = ap (λ (p : PlaneAccount). p.at.round) c.into_parts-links.ensures.plane in let early = c.requires.early in omega (arith, same, early))

pub show_windows-requires-clause-near : goal.show_windows-requires-clause-near
show_windows-requires-clause-near g c κs within = (let same = ap (λ (p : PlaneAccount). p.at.round) c.into_parts-links.ensures.plane in let near = c.requires.near in omega (arith, same, near))

pub show_windows-requires-clause-rounds : goal.show_windows-requires-clause-rounds
show_windows-requires-clause-rounds g c κs within =
    let same = ap (λ (p : PlaneAccount). p.rounds) c.into_parts-links.ensures.plane in
    let stands = c.requires.stand.1.stands.actors.plane.rounds in
    let rounds = c.requires.job.all in
    omega (arith, same, stands, rounds)

pub returns-clause-plays : goal.returns-clause-plays
returns-clause-plays g c = λ past stand.
    let v = c.in_ok-tracks.tracks in
    let new = c.show_windows.new.tracks in
    let first = seen-first (λ (d : Track). d.link) g.W.Watch.saw c.args.job.now.plan.now c.args.engine c.args.job.now.gap c.into_parts-links.result.0.items c.into_parts-links.result.1 c.deref_mut.result.now c.args.watch.now past stand
    (ap (λ links. links.items) c.into_parts-links.ensures.links) c.into_parts-links.ensures.plane (ap (map (λ (d : Track). d.link)) c.deref_mut.ensures.value ∙ c.in_ok-tracks.ensures) c.requires.job.keeps in
    let goes = c.in_ok-show_windows.ensures.goes past first in
    let before = first.between.kept.same in
    let after = goes.comes.between.kept.same in
    let value = ap length c.deref_mut.ensures.value in
    let long : length new ≡ v.len = omega (arith, before, after, value, v.ok.0) in
    let high = plane-actor c.args.job.now.plan.now c.args.job.now.actor stand.stands.plan c.requires.job.plane in
    engine-again (λ (d : Track). d.link) g.W.Watch.saw c.args.job.now.plan.now c.args.engine c.args.job.now.gap c.into_parts-links.result.2 new c.show_windows.new.plane c.from_parts.result c.args.watch.now c.show_windows.new.watch past c.args.job.now.actor stand (omega (arith, high))
    c.into_parts-links.ensures.callers
    (ap (λ links. links.items) c.from_parts.ensures.links ∙ c.in_ok-links.ensures ∙ ap (map (λ (d : Track). d.link)) (with_items_is v new long))
    c.from_parts.ensures.plane c.from_parts.ensures.callers goes

pub returns-clause-at : goal.returns-clause-at
returns-clause-at g c = (let at = c.in_ok-show_windows.ensures.at in let same = ap (λ (p : PlaneAccount). p.at.round) c.from_parts.ensures.plane in omega (arith, at, same))
