-- The route that is found between two nodes is that of the least walk.
use Rattle.std.proofs.Common.{◌≢◌, ℕ, Option, Some, None, option_map, List, map, refl}
use Rattle.call_script.specs.declared.entries.LinkEntry.{LinkEntry}
use Rattle.route_finder.specs.Laws.{IsLeastOrNone}
use Rattle.route_finder.specs.Trace.{least_walk}
use Rattle.route_finder.specs.Walks.{hop_of as hop_by}
use Rattle.route_finder.specs.declared.edge.Edge.{Edge}
use Rattle.route_finder.proofs.LeastWalk.{finds-least-walk}
use Rattle.scenario_reader.specs.FoundRoutes.{IsLeastRoute, FindsLeastRoutes, TellsNodesApart}
use Rattle.scenario_reader.specs.Nodes.{node_of, edges_of, route_between}
use Rattle.scenario_reader.proofs.Finding.NodesByNumber.{are-network, node-same}

pub finds-least-routes : FindsLeastRoutes
unfolding route_between
finds-least-routes links from to numbered few nodes =
    let apart : node_of links from ≢ node_of links to = λ same. nodes.apart (node-same 0 links from to nodes.from_node nodes.to_node same) in
    let least = finds-least-walk (edges_of links) (node_of links from) (node_of links to) (are-network links numbered few) apart in
    by links from to (least_walk (edges_of links) (node_of links from) (node_of links to)) least where
      by : (links : List LinkEntry) (from to : List ℕ) (walk : Option (List Edge)) → IsLeastOrNone (edges_of links) (node_of links from) (node_of links to) walk
          → IsLeastRoute links from to (option_map (map hop_by) walk)
      by links from to None none = none
      by links from to (Some walk) least = record { walk = walk; is_least = least; is_route = refl }

pub tells-nodes-apart : TellsNodesApart
tells-nodes-apart links one other known known' same = node-same 0 links one other known known' same
