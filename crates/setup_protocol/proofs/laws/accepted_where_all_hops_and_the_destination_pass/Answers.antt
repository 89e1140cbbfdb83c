use Rattle.setup_protocol.proofs.SettledRequest.{accepted-passed}
use Rattle.setup_protocol.proofs.laws.accepted_where_all_hops_and_the_destination_pass.Goals as goal

pub returns : goal.returns
returns c = accepted-passed
