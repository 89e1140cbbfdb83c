use Rattle.run_engine.proofs.Replies.Replying.{replies-expected}
use Rattle.interleave_core.proofs.laws.every_reply_is_expected.Goals as goal

pub returns : goal.returns
returns c = replies-expected
