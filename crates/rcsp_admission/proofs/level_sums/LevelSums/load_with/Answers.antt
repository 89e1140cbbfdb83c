-- A row at the level adds its work.
use Rattle.std.proofs.Common.{ap, arith}
use Rattle.net_units.specs.Numbers.{level_number}
use Rattle.traffic_contract.proofs.AdmissionTest.{load-from}
use Rattle.traffic_contract.specs.Admission.{work_in}
use Rattle.rcsp_admission.specs.Sums.{admitted_rows}
use Rattle.rcsp_admission.proofs.level_sums.LevelSums.load_with.Goals as goal

pub returns : goal.returns
returns c =
    let level = level_number c.args.level in
    let e = load-from c.args.self.now.server (admitted_rows c.args.self.now.rows) c.args.contract.now level level c.args.window (omega arith) in
    let rate = ap (λ s. work_in s.server.rate c.args.contract.now c.args.window) c.self.view_is in
    omega (arith, e, rate, c.load.ensures.value, c.work.ensures.value)
