-- Each row adds its work where its level is one of those summed.
use Rattle.std.proofs.Common.{arith}
use Rattle.net_units.specs.Numbers.{level_number}
use Rattle.traffic_contract.specs.Admission.{work_up_to}
use Rattle.traffic_contract.proofs.AdmissionTest.{work_up_to-within, work_up_to-above}
use Rattle.load_table.specs.Loads.{admitted_in}
use Rattle.load_table.proofs.WorkOfRows.{total-more}
use Rattle.load_table.proofs.work.work_up_to.Goals as goal
use Rattle.load_table.proofs.work.work_up_to.Goals.{then-get, else-get}

pub overflow_add-sum : goal.overflow_add-sum
overflow_add-sum c =
    let small = c.loop-row.invariant.small in
    let inside = c.loop-row-test.true in
    omega (arith, small, inside, c.requires.few, c.work-sum.ensures.small)

pub loop-row-preserved : goal.loop-row-preserved
loop-row-preserved c =
    let step = total-more (work_up_to c.args.rate (level_number c.args.level) c.args.window) c.args.rows.now c.loop-row.row-index c.row-item.result c.loop-row-test.true c.row-item.is in
    let sum = c.loop-row.invariant.sum in
    let small = c.loop-row.invariant.small in
    elim c.if-get.branch [
      | then-get w ↦
          let e = work_up_to-within c.args.rate (level_number c.args.level) c.args.window (admitted_in c.row-item.result) (omega arith) in
          record { sum = omega (arith, step, e, sum, w.work-sum.ensures.value); small = omega (arith, small, w.work-sum.ensures.small) }
      | else-get w ↦
          let e = work_up_to-above c.args.rate (level_number c.args.level) c.args.window (admitted_in c.row-item.result) (omega arith) in
          record { sum = omega (arith, step, e, sum); small = omega (arith, small) }
    ]
