-- What the search for a least route answers: the least walk as a route, with its propagation and its table; or, with a table that
-- shows it, that there is no walk.
use Rattle.std.specs.Prelude.{◌≡◌, ℕ, ◌≤◌, Option, Some, None, List, map}
use Rattle.route_finder.specs.declared.edge.Edge.{Edge}
use Rattle.route_finder.specs.declared.find.Found.{Found}
use Rattle.route_finder.specs.declared.find.RouteFault.{RouteFault}
use Rattle.route_finder.specs.declared.find.RouteFault.TheVariants.{Memory, Unreachable}
use Rattle.route_finder.specs.Rows.{entry}
use Rattle.route_finder.specs.Table.{least_prop, IsLeastProp}
use Rattle.route_finder.specs.Trace.{least_walk}
use Rattle.route_finder.specs.Walks.{hop_of, prop_over, IsWalk, IsLeastWalk}

-- the rows tell the least propagation from each node by at most each number of links
pub record IsTable (edges : List Edge) (to : ℕ) (rows : List (List (Option ℕ))) : Type 0 where
  pub entries : (links node : ℕ) → links ≤ 16 → entry rows links node ≡ least_prop edges to links node
  pub least : (links node : ℕ) → links ≤ 16 → IsLeastProp edges to links node (entry rows links node)

-- the least walk as a route, its propagation, and the table
pub record Finds (edges : List Edge) (from to : ℕ) (found : Found) : Type 0 where
  pub walk : List Edge
  pub is_walk : least_walk edges from to ≡ Some walk
  pub is_least : IsLeastWalk edges from to walk
  pub is_route : found.route ≡ map hop_of walk
  pub is_prop : found.prop ≡ prop_over walk
  pub is_table : IsTable edges to found.least

-- there is no walk
pub record IsUnreachable (edges : List Edge) (from to : ℕ) (rows : List (List (Option ℕ))) : Type 0 where
  pub no_walk : (walk : List Edge) → IsWalk edges from to walk → ⊥
  pub none : least_walk edges from to ≡ None
  pub is_table : IsTable edges to rows

-- out of memory, nothing is told
abbrev pub Fails : List Edge → ℕ → ℕ → RouteFault → Type 0
Fails edges from to Memory = Unit {0}
Fails edges from to (Unreachable least) = IsUnreachable edges from to least
