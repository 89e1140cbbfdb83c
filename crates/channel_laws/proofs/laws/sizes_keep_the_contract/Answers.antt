use Rattle.channel_laws.proofs.SizeLaw.{legal-within}
use Rattle.channel_laws.proofs.laws.sizes_keep_the_contract.Goals as goal

pub returns : goal.returns
returns c = legal-within
