-- The line of the rows and that of the new one are below what they bring, so the window that fits is no shorter than where the
-- sum of the two and the blocking crosses.
use Rattle.std.proofs.Common.{◌≡◌, ◌≤◌, length, ap, subst, arith}
use Rattle.net_units.specs.Numbers.{level_number}
use Rattle.traffic_contract.specs.Admission.{total, work_up_to}
use Rattle.rcsp_admission.specs.Fields.{sums_of}
use Rattle.rcsp_admission.specs.Kept.{kept_rows}
use Rattle.rcsp_admission.specs.Lines.{IsBelow}
use Rattle.rcsp_admission.specs.Room.{NoneBefore, load_with}
use Rattle.rcsp_admission.specs.Sums.{admitted_rows}
use Rattle.rcsp_admission.proofs.LastFullLevel.{line-fits}
use Rattle.rcsp_admission.proofs.StaysAdmitted.{work-small}
use Rattle.rcsp_admission.proofs.level_sums.LevelSums.leap.Goals as goal

pub line_of_rows-rows-requires-clause-few : goal.line_of_rows-rows-requires-clause-few
line_of_rows-rows-requires-clause-few c =
    let level = level_number c.args.level in
    let within : level_number c.args.level ≤ length c.self.inside.bounds = (let e = ap (λ s. s.server.bounds) c.self.view_is in rw e c.requires.within) in
    let small = work-small (sums_of c.self.inside) (level_number c.args.level) c.args.from c.self.invariant.admitted c.args.level.least within (omega (arith, c.if-from-bound.false, c.from-bound.ensures, c.at.ensures.most)) in
    let same : total (work_up_to c.self.inside.rate level c.args.from) (kept_rows c.deref.result.now) ≡ total (work_up_to c.self.inside.rate level c.args.from) (kept_rows c.self.inside.rows.items) = cc in
    omega (arith, small, same)

pub crossing-requires-clause-flat : goal.crossing-requires-clause-flat
crossing-requires-clause-flat c = omega (arith, c.self.invariant.admitted.server.blocking, c.from.ensures)

pub returns-clause-none : goal.returns-clause-none
returns-clause-none c =
    let level = level_number c.args.level in
    let server = (sums_of c.self.inside).server in
    let rows = kept_rows c.self.inside.rows.items in
    let below : IsBelow c.line_of_rows-rows.result.flat c.line_of_rows-rows.result.slope (λ w. total (work_up_to c.self.inside.rate level w) (kept_rows c.self.inside.rows.items)) c.args.from =
    subst (λ kept. IsBelow c.line_of_rows-rows.result.flat c.line_of_rows-rows.result.slope (λ w. total (work_up_to c.self.inside.rate level w) (kept_rows kept)) c.args.from) c.deref.ensures.value c.line_of_rows-rows.ensures.below in
    subst (λ s. NoneBefore s.server (admitted_rows s.rows) c.args.contract.now level c.max.result) c.self.view_is
    (λ w fits.
    let after : c.args.from ≤ w = c.requires.none w (subst (λ s. load_with s.server (admitted_rows s.rows) c.args.contract.now level w ≤ w) c.self.view_is fits) in
    let crossed = c.crossing.ensures w (rw c.from.ensures (line-fits server rows c.args.contract.now level c.args.from w c.line_of_rows-rows.result.flat c.line_of_rows-rows.result.slope c.line_of-new.result.flat c.line_of-new.result.slope below c.line_of-new.ensures.below after fits)) in
    omega (arith, after, crossed))
