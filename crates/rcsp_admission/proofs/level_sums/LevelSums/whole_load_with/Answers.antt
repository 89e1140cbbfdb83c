-- A row at the level adds its work.
use Rattle.std.proofs.Common.{◌≡◌, ap, ◌∙◌, arith}
use Rattle.net_units.specs.Numbers.{level_number}
use Rattle.net_units.specs.LevelBounds.{bound_at}
use Rattle.traffic_contract.proofs.AdmissionTest.{load-from}
use Rattle.traffic_contract.specs.Admission.{work_in}
use Rattle.rcsp_admission.specs.Sums.{admitted_rows}
use Rattle.rcsp_admission.proofs.level_sums.LevelSums.whole_load_with.Goals as goal

pub returns : goal.returns
returns c =
    let level = level_number c.args.level in
    let e = load-from c.args.self.now.server (admitted_rows c.args.self.now.rows) c.args.contract.now level level (bound_at c.args.self.now.server.bounds level) (omega arith) in
    let window : c.from-window.result ≡ bound_at c.args.self.now.server.bounds (level_number c.args.level) = c.from-window.ensures ∙ c.at.ensures.value ∙ ap (λ s. bound_at s.server.bounds (level_number c.args.level)) c.self.view_is in
    let work : work_in c.self.inside.rate c.args.contract.now c.from-window.result ≡ work_in c.args.self.now.server.rate c.args.contract.now (bound_at c.args.self.now.server.bounds (level_number c.args.level)) = ap (λ s. work_in s.server.rate c.args.contract.now c.from-window.result) c.self.view_is ∙ ap (work_in c.args.self.now.server.rate c.args.contract.now) window in
    omega (arith, e, work, c.whole_load.ensures.value, c.work.ensures.value)
