use Rattle.run_engine.proofs.Runs.PartLaws.{clocks-follow}
use Rattle.interleave_core.proofs.laws.clocks_follow_the_plane.Goals as goal

pub returns : goal.returns
returns c = clocks-follow
