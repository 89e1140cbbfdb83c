-- Each row adds its part.
use Rattle.std.proofs.Common.{arith}
use Rattle.load_table.specs.Loads.{part_in}
use Rattle.load_table.proofs.WorkOfRows.{part-more}
use Rattle.load_table.proofs.share.long_run.Goals as goal

pub overflow_add-sum : goal.overflow_add-sum
overflow_add-sum c =
    let small = c.loop-row.invariant.small in
    let inside = c.loop-row-test.true in
    omega (arith, small, inside, c.requires.few, c.part_of-sum.ensures.small)

pub loop-row-preserved : goal.loop-row-preserved
loop-row-preserved c =
    let step = part-more (part_in c.args.rate) c.args.rows.now c.loop-row.row-index c.row-item.result c.loop-row-test.true c.row-item.is in
    let sum = c.loop-row.invariant.sum in
    let small = c.loop-row.invariant.small in
    record { sum = omega (arith, step, sum, c.part_of-sum.ensures.value); small = omega (arith, small, c.part_of-sum.ensures.small) }
