use Rattle.setup_protocol.proofs.SettledRequest.{accepted-keep}
use Rattle.setup_protocol.proofs.laws.accepted_requests_keep_their_bounds.Goals as goal

pub returns : goal.returns
returns c = accepted-keep
