use Rattle.std.proofs.Common.{◌≡◌, ◌++◌, map}
use Rattle.std.specs.Vec.Iter.{into_iter_items}
use Rattle.plane_workers.specs.declared.lane.Lane.{Lane}
use Rattle.plane_workers.proofs.lane.lanes_of.Given as goal

-- a lane for each link so far
abbrev pub invariant-loop-link : goal.invariant-loop-link
invariant-loop-link l = map (λ (d : Lane). d.link) l.lanes.items ++ into_iter_items l.link-iterator ≡ l.fn.links.items
