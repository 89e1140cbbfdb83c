-- Between two nodes of a network: what is read off the table is the least walk, there is at most one, and it passes no link twice.
use Rattle.std.specs.Prelude.{◌≢◌, ◌≡◌, ℕ, Option, Some, None, List}
use Rattle.std.specs.List.{AllPairs}
use Rattle.route_finder.specs.declared.edge.Edge.{Edge}
use Rattle.route_finder.specs.Trace.{least_walk}
use Rattle.route_finder.specs.Walks.{link_of, IsNetwork, IsWalk, IsLeastWalk}

-- what is found: the least walk, or that there is no walk
abbrev pub IsLeastOrNone : List Edge → ℕ → ℕ → Option (List Edge) → Type 0
IsLeastOrNone edges from to None = (walk : List Edge) → IsWalk edges from to walk → ⊥
IsLeastOrNone edges from to (Some walk) = IsLeastWalk edges from to walk

-- between two nodes of a network
abbrev pub FindsLeastWalk : Type 0
FindsLeastWalk = (edges : List Edge) (from to : ℕ) → IsNetwork edges → from ≢ to → IsLeastOrNone edges from to (least_walk edges from to)

-- two least walks are the same
abbrev pub HasOneLeastWalk : Type 0
HasOneLeastWalk = (edges : List Edge) (from to : ℕ) (one other : List Edge) → IsNetwork edges → IsLeastWalk edges from to one → IsLeastWalk edges from to other → one ≡ other

-- a least walk passes no link twice
abbrev pub PassesNoLinkTwice : Type 0
PassesNoLinkTwice = (edges : List Edge) (from to : ℕ) (walk : List Edge) → IsNetwork edges → IsLeastWalk edges from to walk → AllPairs (λ one other. link_of one ≢ link_of other) walk
