use Rattle.std.proofs.Common.{take}
use Rattle.std.specs.List.{AllZip}
use Rattle.design_file.specs.Planned.{IsHopOver}
use Rattle.design_file.proofs.ways.route_over.Given as goal

-- the hops so far are over the links that are named
abbrev pub invariant-loop-name : goal.invariant-loop-name
invariant-loop-name l = AllZip (IsHopOver l.links) (take l.name-index l.names) l.hops.items
