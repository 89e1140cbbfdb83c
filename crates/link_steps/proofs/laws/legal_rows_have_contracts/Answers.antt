use Rattle.link_steps.proofs.LegalRows.{account-contracts}
use Rattle.link_steps.proofs.laws.legal_rows_have_contracts.Goals as goal

pub returns : goal.returns
returns c = account-contracts
