use Rattle.scenario_reader.proofs.Finding.LeastRoutes.{tells-nodes-apart}
use Rattle.scenario_reader.proofs.laws.two_nodes_have_two_numbers.Goals as goal

pub returns : goal.returns
returns c = tells-nodes-apart
