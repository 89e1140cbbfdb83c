-- The load is that of the definition over the rows kept, which pass and so are few.
use Rattle.std.proofs.Common.{◌≡◌, ◌+◌, ◌<◌, ◌≤◌, ◌^◌, length, ap, ◌∙◌, arith}
use Rattle.net_units.specs.Numbers.{level_number}
use Rattle.traffic_contract.specs.Admission.{total, work_up_to, load}
use Rattle.rcsp_admission.specs.Fields.{sums_of}
use Rattle.rcsp_admission.specs.Kept.{kept_rows}
use Rattle.rcsp_admission.specs.Sums.{admitted_rows}
use Rattle.rcsp_admission.proofs.StaysAdmitted.{work-small}
use Rattle.rcsp_admission.proofs.level_sums.LevelSums.load.Goals as goal

pub work_of-requires-clause-fits : goal.work_of-requires-clause-fits
work_of-requires-clause-fits c =
    let level = level_number c.args.level in
    let within : level_number c.args.level ≤ length c.self.inside.bounds = (let e = ap (λ s. s.server.bounds) c.self.view_is in rw e c.requires.within) in
    let small = work-small (sums_of c.self.inside) (level_number c.args.level) c.args.window c.self.invariant.admitted c.args.level.least within c.requires.window in
    let same : total (work_up_to c.self.inside.rate level c.args.window) (kept_rows c.deref.result.now) ≡ total (work_up_to c.self.inside.rate level c.args.window) (kept_rows c.self.inside.rows.items) = cc in
    omega (arith, small, same)

-- what is summed is what the definition sums
small : (c : goal.After-work_of) → c.work_of.result < 2 ^ 60
small c =
    let level = level_number c.args.level in
    let within : level_number c.args.level ≤ length c.self.inside.bounds = (let e = ap (λ s. s.server.bounds) c.self.view_is in rw e c.requires.within) in
    let few = work-small (sums_of c.self.inside) (level_number c.args.level) c.args.window c.self.invariant.admitted c.args.level.least within c.requires.window in
    let same : total (work_up_to c.self.inside.rate level c.args.window) (kept_rows c.deref.result.now) ≡ total (work_up_to c.self.inside.rate level c.args.window) (kept_rows c.self.inside.rows.items) = cc in
    omega (arith, few, same, c.work_of.ensures)

pub overflow_add-result : goal.overflow_add-result
overflow_add-result c = omega (arith, small c, c.from.ensures)

pub returns-clause-value : goal.returns-clause-value
unfolding load
returns-clause-value c =
    let level = level_number c.args.level in
    let same : total (work_up_to c.self.inside.rate level c.args.window) (kept_rows c.deref.result.now) ≡ total (work_up_to c.self.inside.rate level c.args.window) (kept_rows c.self.inside.rows.items) = cc in
    let inside : c.from.result + c.work_of.result ≡ c.self.inside.blocking + total (work_up_to c.self.inside.rate level c.args.window) (kept_rows c.self.inside.rows.items) = omega (arith, same, c.from.ensures, c.work_of.ensures) in
    inside ∙ ap (λ s. load s.server (admitted_rows s.rows) level c.args.window) c.self.view_is

pub returns-clause-small : goal.returns-clause-small
returns-clause-small c = omega (arith, small c, c.from.ensures)
