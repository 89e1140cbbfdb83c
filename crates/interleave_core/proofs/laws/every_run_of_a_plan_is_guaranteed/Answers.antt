use Rattle.interleave_core.proofs.Channels.GuaranteeLaw.{plan-guaranteed}
use Rattle.interleave_core.proofs.laws.every_run_of_a_plan_is_guaranteed.Goals as goal

pub returns : goal.returns
returns c = plan-guaranteed
