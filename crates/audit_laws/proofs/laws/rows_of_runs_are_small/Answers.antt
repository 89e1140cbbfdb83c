use Rattle.audit_laws.proofs.SmallRuns.{rows-are-small}
use Rattle.audit_laws.proofs.laws.rows_of_runs_are_small.Goals as goal

pub returns : goal.returns
returns c = rows-are-small
