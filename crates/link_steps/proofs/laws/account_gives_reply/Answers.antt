use Rattle.link_steps.proofs.Account.{reply_to-account}
use Rattle.link_steps.proofs.laws.account_gives_reply.Goals as goal

pub returns : goal.returns
returns c = reply_to-account
