use Rattle.scenario_reader.proofs.Back.TextBack.{text-of-one}
use Rattle.scenario_reader.proofs.laws.a_text_is_of_one_plan.Goals as goal

pub returns : goal.returns
returns c = text-of-one
