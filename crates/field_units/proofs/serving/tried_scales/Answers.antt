use Rattle.std.proofs.Common.{map, refl, arith}
use Rattle.field_units.specs.Serving.{pair_of, tried_ticks, tried_units, tried_pairs}
use Rattle.field_units.proofs.TriedScales.{pairs-more, pairs-all, some-at}
use Rattle.field_units.proofs.serving.tried_scales.Goals as goal

pub add_units-requires-clause-tick : goal.add_units-requires-clause-tick
unfolding tried_ticks
add_units-requires-clause-tick c = some-at tried_ticks c.loop-tick.tick-index refl (omega (arith, c.loop-tick-test.true))

pub loop-tick-preserved : goal.loop-tick-preserved
unfolding tried_ticks tried_units
loop-tick-preserved c =
    rw c.in_ok-add_units.ensures
    (pairs-more (map pair_of c.loop-tick.scales.items) tried_pairs tried_ticks tried_units c.loop-tick.tick-index (omega (arith, c.loop-tick-test.true)) c.loop-tick.invariant)

pub returns : goal.returns
unfolding tried_ticks tried_units
returns c = pairs-all (map pair_of c.loop-tick.scales.items) tried_pairs tried_ticks tried_units c.loop-tick.tick-index (omega (arith, c.loop-tick-test.false)) c.loop-tick.invariant
