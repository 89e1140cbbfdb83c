use Rattle.link_steps.proofs.LegalAdmissible.{legal-admissible}
use Rattle.link_steps.proofs.laws.legal_is_admissible.Goals as goal

pub returns : goal.returns
returns c = legal-admissible
