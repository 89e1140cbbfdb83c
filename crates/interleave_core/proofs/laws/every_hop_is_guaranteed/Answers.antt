use Rattle.run_engine.proofs.Runs.PartLaws.{hops-guaranteed}
use Rattle.interleave_core.proofs.laws.every_hop_is_guaranteed.Goals as goal

pub returns : goal.returns
returns c = hops-guaranteed
