use Rattle.std.proofs.Common.{◌≡◌, ◌*◌, drop}
use Rattle.scenario_reader.specs.Nodes.{node_from, node_of}
use Rattle.design_file.proofs.nodes.node_of.Given as goal

-- what is left counts on from the node
abbrev pub invariant-loop-entry : goal.invariant-loop-entry
invariant-loop-entry l = record {
  node : l.node ≡ 2 * l.entry-index;
  rest : node_of l.links l.name ≡ node_from l.node (drop l.entry-index l.links) l.name;
}
