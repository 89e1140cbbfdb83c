use Rattle.run_engine.proofs.Runs.WeaveLaw.{journals-weave}
use Rattle.interleave_core.proofs.laws.journals_weave_to_a_run.Goals as goal

pub returns : goal.returns
returns c = journals-weave
