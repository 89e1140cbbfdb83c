use Rattle.run_engine.proofs.Replies.VerdictHolds.{verdicts-follow}
use Rattle.interleave_core.proofs.laws.verdicts_follow_the_replies.Goals as goal

pub returns : goal.returns
returns c = verdicts-follow
