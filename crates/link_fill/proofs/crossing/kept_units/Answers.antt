-- Each request adds what it keeps.
use Rattle.std.proofs.Common.{arith}
use Rattle.link_fill.proofs.RowsOfRequests.{kept-more}
use Rattle.link_fill.proofs.crossing.kept_units.Goals as goal

pub overflow_add-sum : goal.overflow_add-sum
overflow_add-sum c =
    let small = c.loop-crossing.invariant.small in
    let inside = c.loop-crossing-test.true in
    omega (arith, small, inside, c.requires.few, c.kept_by-sum.ensures.small)

pub loop-crossing-preserved : goal.loop-crossing-preserved
loop-crossing-preserved c =
    let step = kept-more c.args.crossings.now c.loop-crossing.crossing-index c.crossing-item.result c.loop-crossing-test.true c.crossing-item.is in
    let sum = c.loop-crossing.invariant.sum in
    let small = c.loop-crossing.invariant.small in
    record { sum = omega (arith, step, sum, c.kept_by-sum.ensures.value); small = omega (arith, small, c.kept_by-sum.ensures.small) }
