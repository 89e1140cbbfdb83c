use Rattle.network_variants.proofs.Odometer.{combination-once}
use Rattle.network_variants.proofs.laws.each_combination_once.Goals as goal

pub returns : goal.returns
returns c = combination-once
