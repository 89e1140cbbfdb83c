use Rattle.interleave_core.proofs.Channels.GuaranteeLaw.{guaranteed-throughout}
use Rattle.interleave_core.proofs.laws.every_run_is_guaranteed.Goals as goal

pub returns : goal.returns
returns c = guaranteed-throughout
