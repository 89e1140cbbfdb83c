use Rattle.audit_laws.proofs.RunAccepted.{run-accepted}
use Rattle.audit_laws.proofs.laws.levels_of_runs_are_accepted.Goals as goal

pub returns : goal.returns
returns c = run-accepted
