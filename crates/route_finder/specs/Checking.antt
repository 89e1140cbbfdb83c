-- A certificate that no walk between two nodes has a smaller sum than a route. The route is a walk from the one to the other,
-- and its propagations have the sum that is given. The table has 0 at the end and nothing elsewhere for 0 links, each row
-- follows from the row before it, and its entry for 16 links at the start is that sum.
use Rattle.std.specs.Prelude.{◌≡◌, ℕ, suc, ◌+◌, ◌<◌, ◌≤◌, Option, Some, List, map}
use Rattle.hop_reservation.specs.declared.route.Hop.{Hop}
use Rattle.route_finder.specs.declared.edge.Edge.{Edge}
use Rattle.route_finder.specs.Rows.{entry}
use Rattle.route_finder.specs.Table.{by_none, by_one_more}
use Rattle.route_finder.specs.Walks.{hop_of, prop_over, AreAmong, Leads, IsWalk}

-- the first row is that of no link, and each row up to this many links is that of one link more than the row before it
pub record HasRows (edges : List Edge) (to links : ℕ) (rows : List (List (Option ℕ))) : Type 0 where
  pub none : (node : ℕ) → node < 64 → entry rows 0 node ≡ by_none to node
  pub one_more : (few node : ℕ) → few < links → node < 64 → entry rows (suc few) node ≡ by_one_more (entry rows few) edges node

-- the whole certificate
pub record Checks (edges : List Edge) (from to : ℕ) (route : List Hop) (prop : ℕ) (rows : List (List (Option ℕ))) : Type 0 where
  pub walk : List Edge
  pub is_walk : IsWalk edges from to walk
  pub is_route : map hop_of walk ≡ route
  pub is_prop : prop_over walk ≡ prop
  pub is_table : HasRows edges to 16 rows
  pub reached : entry rows 16 from ≡ Some prop

-- no walk has a smaller sum
abbrev pub IsLeastSum : List Edge → ℕ → ℕ → ℕ → Type 0
IsLeastSum edges from to prop = (other : List Edge) → IsWalk edges from to other → prop ≤ prop_over other

-- ---- a step at a time

-- the edge begins at the node, and the hop is by it
pub record IsBy (node : ℕ) (passed : Hop) (edge : Edge) : Type 0 where
  pub from : edge.from ≡ node
  pub hop : edge.hop ≡ passed

-- after this sum, the hops lead on from the node to the other one, and the whole sum is the propagation
pub record Follows (edges : List Edge) (to prop node sum : ℕ) (hops : List Hop) : Type 0 where
  pub walk : List Edge
  pub among : AreAmong edges walk
  pub leads : Leads node to walk
  pub is_route : map hop_of walk ≡ hops
  pub is_prop : sum + prop_over walk ≡ prop
