use Rattle.interleave_core.proofs.Channels.KeptRequest.{accepted-kept}
use Rattle.interleave_core.proofs.laws.accepted_requests_are_kept.Goals as goal

pub returns : goal.returns
returns c = accepted-kept
