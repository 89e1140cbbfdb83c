use Rattle.std.proofs.Common.{◌≡◌, map, take}
use Rattle.design_file.specs.Rounded.{bound_of}
use Rattle.design_file.proofs.links.ticks_of.Given as goal

-- the bounds so far, rounded
abbrev pub invariant-loop-level : goal.invariant-loop-level
invariant-loop-level l = l.ticks.items ≡ map (bound_of l.scale.tick) (take l.level-index l.levels)
