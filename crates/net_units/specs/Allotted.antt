-- The levels allotted to a route's hops are a list of level numbers, one a hop, in route order.
use Rattle.std.specs.Prelude.{ℕ, List, map, take}
use Rattle.net_units.specs.Numbers.{level_number}
use Rattle.net_units.specs.declared.levels.Levels.{Levels}

-- the numbers of the levels
abbrev pub levels_of : Levels → List ℕ
levels_of levels = map level_number (take levels.len levels.levels)
