use Rattle.channel_laws.proofs.ChannelRows.{legal-stands}
use Rattle.channel_laws.proofs.laws.a_channel_has_one_row.Goals as goal

pub returns : goal.returns
returns c = legal-stands
