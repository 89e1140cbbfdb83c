use Rattle.run_engine.proofs.Runs.RunOf.{follow-actors}
use Rattle.interleave_core.proofs.laws.runs_follow_their_actors.Goals as goal

pub returns : goal.returns
returns c = follow-actors
