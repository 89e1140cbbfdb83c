use Rattle.call_script.proofs.OneOwner.{all-owned}
use Rattle.call_script.proofs.laws.every_channel_has_one_owner.Goals as goal

pub returns : goal.returns
returns c = all-owned
