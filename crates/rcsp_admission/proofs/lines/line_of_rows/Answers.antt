-- Each row adds its line where its level is one of those summed. The line begins no higher than the work of all rows is.
use Rattle.std.proofs.Common.{◌≡◌, ℕ, take, arith, subst}
use Rattle.std.proofs.lemmas.List.{take_all}
use Rattle.net_units.specs.Numbers.{level_number}
use Rattle.traffic_contract.specs.Admission.{total, work_in, work_up_to}
use Rattle.traffic_contract.proofs.AdmissionTest.{work_up_to-within, work_up_to-above}
use Rattle.rcsp_admission.specs.Lines.{IsBelow}
use Rattle.rcsp_admission.specs.Sums.{admitted_row}
use Rattle.rcsp_admission.specs.Kept.{held_of, kept_rows}
use Rattle.rcsp_admission.proofs.LinesBelowWork.{below-none, below-both, below-same, flat-most}
use Rattle.rcsp_admission.proofs.WorkByRow.{total-take_more, total-take-le}
use Rattle.rcsp_admission.proofs.lines.line_of_rows.Goals as goal
use Rattle.rcsp_admission.proofs.lines.line_of_rows.Goals.{then-get, else-get}

pub overflow_add-flat : goal.overflow_add-flat
overflow_add-flat c =
    let most = flat-most c.loop-row.flat c.loop-row.slope (λ w. total (work_up_to c.args.rate (level_number c.args.level) w) (kept_rows (take c.loop-row.row-index c.args.rows.now))) c.args.from c.loop-row.invariant.1 in
    let part = total-take-le (work_up_to c.args.rate (level_number c.args.level) c.args.from) c.args.rows.now c.loop-row.row-index in
    omega (arith, most, part, c.requires.few, c.line_of-line.ensures.flat)

pub loop-row-init : goal.loop-row-init
loop-row-init c = (omega arith, below-none _ c.args.from)

pub loop-row-preserved : goal.loop-row-preserved
loop-row-preserved c =
    let level = level_number c.args.level in
    let step = λ (w : ℕ). total-take_more (work_up_to c.args.rate (level_number c.args.level) w) c.args.rows.now c.loop-row.row-index c.row-item.result c.loop-row-test.true c.row-item.is in
    elim c.if-get.branch [
      | then-get w ↦ (
        omega arith,
        below-both c.if-get.flat c.if-get.slope _ (work_in c.args.rate c.row-item.result.contract) _ c.args.from c.loop-row.flat c.loop-row.slope w.line_of-line.result.flat w.line_of-line.result.slope c.loop-row.invariant.1 w.line_of-line.ensures.below
            (λ v. (let e = work_up_to-within c.args.rate (level_number c.args.level) v (admitted_row (held_of c.row-item.result)) (omega arith) in omega (arith, step v, e)))
            (omega arith) (omega arith),
      )
      | else-get w ↦ (
        omega arith,
        below-same c.if-get.flat c.if-get.slope _ _ c.args.from c.loop-row.flat c.loop-row.slope c.loop-row.invariant.1
            (λ v. (let e = work_up_to-above c.args.rate (level_number c.args.level) v (admitted_row (held_of c.row-item.result)) (omega arith) in omega (arith, step v, e)))
            (omega arith) (omega arith),
      )
    ]

pub returns-clause-below : goal.returns-clause-below
returns-clause-below c =
    let all : take c.loop-row.row-index c.args.rows.now ≡ c.args.rows.now = take_all c.loop-row.row-index c.args.rows.now (omega arith) in
    subst (λ rows. IsBelow c.loop-row.flat c.loop-row.slope (λ w. total (work_up_to c.args.rate (level_number c.args.level) w) (kept_rows rows)) c.args.from) all c.loop-row.invariant.1

pub returns-clause-flat : goal.returns-clause-flat
returns-clause-flat c =
    let most = flat-most c.loop-row.flat c.loop-row.slope (λ w. total (work_up_to c.args.rate (level_number c.args.level) w) (kept_rows (take c.loop-row.row-index c.args.rows.now))) c.args.from c.loop-row.invariant.1 in
    let part = total-take-le (work_up_to c.args.rate (level_number c.args.level) c.args.from) c.args.rows.now c.loop-row.row-index in
    omega (arith, most, part, c.requires.few)
