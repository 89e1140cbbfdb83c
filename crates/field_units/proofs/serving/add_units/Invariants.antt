use Rattle.std.proofs.Common.{◌≡◌, ◌++◌, map, drop}
use Rattle.field_units.specs.Serving.{pair_of, pairs_at}
use Rattle.field_units.proofs.serving.add_units.Given as goal

-- what was added, and the pairs of the units that are left, are the pairs of all units
abbrev pub invariant-loop-unit : goal.invariant-loop-unit
invariant-loop-unit l = map pair_of l.scales.items ++ pairs_at l.tick (drop l.unit-index l.units) ≡ map pair_of l.initial.scales.items ++ pairs_at l.tick l.units
