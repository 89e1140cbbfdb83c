-- The route that is found from a node of a network to another one is that of the least walk: of all walks of 1 to 16 links it has the
-- least sum of propagations, of those with this sum the fewest links, and of those the first list of link numbers. Where no route is
-- found, there is no walk. A node stands for its number alone, so two nodes have two numbers.
use Rattle.std.specs.Prelude.{◌≡◌, ◌≢◌, ◌≤◌, ℕ, true, Option, Some, None, List, length, map}
use Rattle.hop_reservation.specs.declared.route.Hop.{Hop}
use Rattle.call_script.specs.declared.entries.LinkEntry.{LinkEntry}
use Rattle.route_finder.specs.Walks.{hop_of as hop_by, IsWalk, IsLeastWalk}
use Rattle.route_finder.specs.declared.edge.Edge.{Edge}
use Rattle.scenario_reader.specs.Nodes.{LinksAreNumbered, is_node, node_of, edges_of, route_between}

-- two different nodes of the network
pub record AreApart (links : List LinkEntry) (from to : List ℕ) : Type 0 where
  pub from_node : is_node links from ≡ true
  pub to_node : is_node links to ≡ true
  pub apart : from ≢ to

-- the hops of the least walk
pub record IsByLeastWalk (links : List LinkEntry) (from to : List ℕ) (route : List Hop) : Type 0 where
  pub walk : List Edge
  pub is_least : IsLeastWalk (edges_of links) (node_of links from) (node_of links to) walk
  pub is_route : map hop_by walk ≡ route

-- or, where there is no route, no walk
abbrev pub IsLeastRoute : List LinkEntry → List ℕ → List ℕ → Option (List Hop) → Type 0
IsLeastRoute links from to None = (walk : List Edge) → IsWalk (edges_of links) (node_of links from) (node_of links to) walk → ⊥
IsLeastRoute links from to (Some route) = IsByLeastWalk links from to route

abbrev pub FindsLeastRoutes : Type 0
FindsLeastRoutes = (links : List LinkEntry) (from to : List ℕ) → LinksAreNumbered links → length links ≤ 32 → AreApart links from to → IsLeastRoute links from to (route_between links from to)

-- two nodes of one number are one node
abbrev pub TellsNodesApart : Type 0
TellsNodesApart = (links : List LinkEntry) (one other : List ℕ) → is_node links one ≡ true → is_node links other ≡ true → node_of links one ≡ node_of links other → one ≡ other
