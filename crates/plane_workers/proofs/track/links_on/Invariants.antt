use Rattle.std.proofs.Common.{◌≡◌, ◌++◌, map}
use Rattle.std.specs.Vec.Iter.{into_iter_items}
use Rattle.plane_workers.specs.declared.track.Track.{Track}
use Rattle.plane_workers.proofs.track.links_on.Given as goal

-- the link of each track so far
abbrev pub invariant-loop-track : goal.invariant-loop-track
invariant-loop-track l = l.links.items ++ map (λ (t : Track). t.link) (into_iter_items l.track-iterator) ≡ map (λ (t : Track). t.link) l.fn.tracks.items
