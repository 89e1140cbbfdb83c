-- Each row adds its work where its level is one of those summed, and no sum passes that of all rows.
use Rattle.std.proofs.Common.{arith}
use Rattle.net_units.specs.Numbers.{level_number}
use Rattle.traffic_contract.specs.Admission.{work_up_to}
use Rattle.traffic_contract.proofs.AdmissionTest.{work_up_to-within, work_up_to-above}
use Rattle.rcsp_admission.specs.Sums.{admitted_row}
use Rattle.rcsp_admission.specs.Kept.{held_of}
use Rattle.rcsp_admission.proofs.WorkByRow.{total-take_more, total-take-le}
use Rattle.rcsp_admission.proofs.rows.work_of.Goals as goal
use Rattle.rcsp_admission.proofs.rows.work_of.Goals.{then-get, else-get}

pub overflow_add-sum : goal.overflow_add-sum
overflow_add-sum c =
    let part = total-take-le (work_up_to c.args.rate (level_number c.args.level) c.args.window) c.args.rows.now c.loop-row.row-index in
    omega (arith, part, c.loop-row.invariant, c.requires.fits, c.work-sum.ensures.small)

pub loop-row-preserved : goal.loop-row-preserved
loop-row-preserved c =
    let step = total-take_more (work_up_to c.args.rate (level_number c.args.level) c.args.window) c.args.rows.now c.loop-row.row-index c.row-item.result c.loop-row-test.true c.row-item.is in
    elim c.if-get.branch [
      | then-get w ↦
          let e = work_up_to-within c.args.rate (level_number c.args.level) c.args.window (admitted_row (held_of c.row-item.result)) (omega arith) in
          omega (arith, step, e, c.loop-row.invariant, w.work-sum.ensures.value)
      | else-get w ↦
          let e = work_up_to-above c.args.rate (level_number c.args.level) c.args.window (admitted_row (held_of c.row-item.result)) (omega arith) in
          omega (arith, step, e, c.loop-row.invariant)
    ]
