use Rattle.call_script.proofs.PlansFit.{plan-fits}
use Rattle.call_script.proofs.laws.every_plan_fits.Goals as goal

pub returns : goal.returns
returns c = plan-fits
