use Rattle.run_engine.proofs.Runs.PartsRun.{parts-run}
use Rattle.interleave_core.proofs.laws.fitting_parts_make_a_run.Goals as goal

pub returns : goal.returns
returns c = parts-run
