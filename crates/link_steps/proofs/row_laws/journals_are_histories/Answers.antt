use Rattle.link_steps.proofs.LegalJournals.{journals-are-histories}
use Rattle.link_steps.proofs.row_laws.journals_are_histories.Goals as goal

pub returns : goal.returns
returns c = journals-are-histories
