use Rattle.channel_laws.proofs.SentInTime.{sent-facts}
use Rattle.channel_laws.proofs.laws.what_leaves_is_in_time.Goals as goal

pub returns : goal.returns
returns c = sent-facts
