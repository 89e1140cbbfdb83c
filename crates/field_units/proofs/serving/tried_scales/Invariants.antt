use Rattle.std.proofs.Common.{◌≡◌, ◌++◌, map, drop}
use Rattle.field_units.specs.Serving.{pair_of, pairs_of, tried_ticks, tried_units, tried_pairs}
use Rattle.field_units.proofs.serving.tried_scales.Given as goal

-- what was made, and the pairs of the ticks that are left, are all that are tried
abbrev pub invariant-loop-tick : goal.invariant-loop-tick
invariant-loop-tick l = map pair_of l.scales.items ++ pairs_of (drop l.tick-index tried_ticks) tried_units ≡ tried_pairs
