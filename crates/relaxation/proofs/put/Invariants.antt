use Rattle.std.proofs.Common.{◌≡◌, map, take}
use Rattle.net_units.specs.Allotted.{levels_of}
use Rattle.net_units.specs.Numbers.{level_number}
use Rattle.relaxation.proofs.put.Given as goal

abbrev pub invariant-loop-level : goal.invariant-loop-level
invariant-loop-level l = levels_of l.out ≡ map level_number (take l.level-index l.levels)
