use Rattle.link_steps.proofs.HopHolds.{rows-keep}
use Rattle.link_steps.proofs.laws.every_row_keeps_its_contract.Goals as goal

pub returns : goal.returns
returns c = rows-keep
