use Rattle.std.proofs.Common.{◌≡◌, map, take}
use Rattle.scenario_reader.specs.Nodes.{edge_over}
use Rattle.design_file.proofs.nodes.edges_of.Given as goal

abbrev pub invariant-loop-entry : goal.invariant-loop-entry
invariant-loop-entry l = l.edges.items ≡ map (edge_over l.links) (take l.entry-index l.links)
