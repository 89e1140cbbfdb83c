use Rattle.std.proofs.Common.{◌≡◌, ◌++◌, map}
use Rattle.std.specs.Vec.Iter.{into_iter_items}
use Rattle.plane_workers.specs.declared.lane.Lane.{Lane}
use Rattle.plane_workers.proofs.lane.links_in.Given as goal

-- the link of each lane so far
abbrev pub invariant-loop-lane : goal.invariant-loop-lane
invariant-loop-lane l = l.links.items ++ map (λ (d : Lane). d.link) (into_iter_items l.lane-iterator) ≡ map (λ (d : Lane). d.link) l.fn.lanes.items
