use Rattle.run_engine.proofs.Runs.PartLaws.{rows-pass-everywhere}
use Rattle.interleave_core.proofs.laws.held_rows_pass_on_every_link.Goals as goal

pub returns : goal.returns
returns c = rows-pass-everywhere
