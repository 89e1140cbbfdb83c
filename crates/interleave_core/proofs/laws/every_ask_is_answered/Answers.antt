use Rattle.run_engine.proofs.Replies.Replying.{asks-answered}
use Rattle.interleave_core.proofs.laws.every_ask_is_answered.Goals as goal

pub returns : goal.returns
returns c = asks-answered
