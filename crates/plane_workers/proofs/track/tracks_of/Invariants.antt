use Rattle.std.proofs.Common.{◌≡◌, ◌++◌, map}
use Rattle.std.specs.Vec.Iter.{into_iter_items}
use Rattle.plane_workers.specs.declared.track.Track.{Track}
use Rattle.plane_workers.proofs.track.tracks_of.Given as goal

-- a track for each link so far
abbrev pub invariant-loop-link : goal.invariant-loop-link
invariant-loop-link l = map (λ (t : Track). t.link) l.tracks.items ++ into_iter_items l.link-iterator ≡ l.fn.links.items
