use Rattle.link_steps.proofs.Account.{account_of-entry}
use Rattle.link_steps.proofs.laws.account_goes_on.Goals as goal

pub returns : goal.returns
returns c = account_of-entry
