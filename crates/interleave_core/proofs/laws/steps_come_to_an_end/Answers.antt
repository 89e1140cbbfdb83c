use Rattle.run_engine.proofs.Tasks.StepsRunOut.{steps-end}
use Rattle.interleave_core.proofs.laws.steps_come_to_an_end.Goals as goal

pub returns : goal.returns
returns c = steps-end
