use Rattle.audit_laws.proofs.RunIsSound.{runs-find_nothing}
use Rattle.audit_laws.proofs.laws.audits_of_runs_find_nothing.Goals as goal

pub returns : goal.returns
returns c = runs-find_nothing
