-- Where the test takes the whole bound, it says that the load there is within it.
use Rattle.std.proofs.Common.{arith}
use Rattle.net_units.specs.Numbers.{level_number}
use Rattle.rcsp_admission.specs.Sums.{admitted_rows}
use Rattle.rcsp_admission.proofs.LastFullLevel.{whole-fits}
use Rattle.rcsp_admission.proofs.level_sums.LevelSums.sum.Goals as goal

pub returns-clause-fits : goal.returns-clause-fits
returns-clause-fits c whole =
    let fits = whole-fits c.args.self.now.server (admitted_rows c.args.self.now.rows) (level_number c.args.level) whole (c.whole_load.ensures.admitted.passes.each (level_number c.args.level) c.args.level.least c.requires.within) in
    omega (arith, fits, c.whole_load.ensures.value)

pub returns-clause-admitted : goal.returns-clause-admitted
returns-clause-admitted c = c.whole_load.ensures.admitted
