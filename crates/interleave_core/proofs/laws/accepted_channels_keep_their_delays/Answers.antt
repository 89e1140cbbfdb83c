use Rattle.interleave_core.proofs.Channels.AcceptedPath.{accepted-path}
use Rattle.interleave_core.proofs.laws.accepted_channels_keep_their_delays.Goals as goal

pub returns : goal.returns
returns c = accepted-path
