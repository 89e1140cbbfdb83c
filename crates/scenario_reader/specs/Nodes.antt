-- The nodes of a network by number, its links as edges between them, and the route that is found from one node to another. A
-- node's number is the first place of its name among those of the ends of the links: where the first link begins, where it ends,
-- where the second one begins, and so on.
use Rattle.std.specs.Prelude.{◌≡◌, ℕ, suc, ◌+◌, Bool, ◌||◌, if◌then◌else◌, Option, Some, List, [], ◌∷◌, map, option_map}
use Rattle.std.specs.List.{list_any, slice_get}
use Rattle.net_units.specs.Numbers.{link_number}
use Rattle.hop_reservation.specs.declared.route.Hop.{Hop}
use Rattle.call_script.specs.Rules.{is_named}
use Rattle.call_script.specs.declared.entries.LinkEntry.{LinkEntry}
use Rattle.route_finder.specs.Trace.{least_walk}
use Rattle.route_finder.specs.Walks.{hop_of as hop_by}
use Rattle.route_finder.specs.declared.edge.Edge.{Edge}
use Rattle.scenario_reader.specs.Entries.{hop_of}

-- each link has the number of its place
pub record LinksAreNumbered (links : List LinkEntry) : Type 0 where
  pub number : (n : ℕ) (entry : LinkEntry) → slice_get links n ≡ Some entry → link_number entry.shape.link ≡ n

-- whether a link begins or ends at this node
abbrev pub touches : List ℕ → LinkEntry → Bool
touches name entry = is_named name entry.from || is_named name entry.to

-- whether some link does
abbrev pub is_node : List LinkEntry → List ℕ → Bool
is_node links name = list_any (touches name) links

-- the number of a node, where the first of the links begins at the node of this number
unfoldable pub node_from : ℕ → List LinkEntry → List ℕ → ℕ
node_from n [] name = n
node_from n (entry ∷ links) name = if is_named name entry.from then n else (if is_named name entry.to then suc n else node_from (2 + n) links name)

-- the number of a node
abbrev pub node_of : List LinkEntry → List ℕ → ℕ
node_of links name = node_from 0 links name

-- a link as an edge
abbrev pub edge_over : List LinkEntry → LinkEntry → Edge
edge_over links entry = record { from = node_of links entry.from; to = node_of links entry.to; hop = hop_of entry }

unfoldable pub edges_of : List LinkEntry → List Edge
edges_of links = map (edge_over links) links

-- the least route from a node to another, if there is any
unfoldable pub route_between : List LinkEntry → List ℕ → List ℕ → Option (List Hop)
route_between links from to = option_map (map hop_by) (least_walk (edges_of links) (node_of links from) (node_of links to))
