-- A link's state stands for a history when the account that it keeps is that of the history.
use Rattle.std.specs.Prelude.{◌≡◌, List}
use Rattle.std.proofs.Common.{ap}
use Rattle.link_steps.specs.declared.replies.Entry.{Entry}
use Rattle.link_steps.specs.Account.{Account, StandsFor, account_at}
use Rattle.link_steps.specs.Scan.{clock_of}
use Rattle.link_steps.specs.Split.{SplitFits, whole}
use Rattle.link_steps.proofs.LegalAdmissible.{whole-fits}
use Rattle.link_server.specs.Account.{account}
use Rattle.link_server.specs.declared.link_state.LinkState.{LinkState}

-- the account that it keeps
abbrev pub account_in : LinkState → Account
account_in link = account link.clock link.queue link.table.rows

-- it stands for this history, newest first
abbrev pub LinkStands : LinkState → List Entry → Type 0
LinkStands link h = StandsFor link.shape (account_in link) h

-- it isn't split, and a link that isn't has a split that fits it
pub stands-fits : (link : LinkState) (h : List Entry) → LinkStands link h → SplitFits (whole link.shape)
stands-fits link h stands = whole-fits link.shape

-- its clock is that of every history that it stands for
pub stands-clock : (link : LinkState) (h : List Entry) → LinkStands link h → link.clock ≡ clock_of h
unfolding account_at
stands-clock link h stands = ap (λ kept. kept.clock) stands
