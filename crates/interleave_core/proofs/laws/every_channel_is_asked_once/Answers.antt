use Rattle.interleave_core.proofs.Channels.AskedOnce.{channels-asked}
use Rattle.interleave_core.proofs.laws.every_channel_is_asked_once.Goals as goal

pub returns : goal.returns
returns c = channels-asked
