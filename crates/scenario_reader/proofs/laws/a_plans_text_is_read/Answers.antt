use Rattle.scenario_reader.proofs.Back.TextBack.{text-is-read}
use Rattle.scenario_reader.proofs.laws.a_plans_text_is_read.Goals as goal

pub returns : goal.returns
returns c = text-is-read
