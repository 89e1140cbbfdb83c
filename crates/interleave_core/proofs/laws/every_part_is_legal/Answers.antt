use Rattle.run_engine.proofs.Runs.RunLegal.{part-legal}
use Rattle.interleave_core.proofs.laws.every_part_is_legal.Goals as goal

pub returns : goal.returns
returns c = part-legal
