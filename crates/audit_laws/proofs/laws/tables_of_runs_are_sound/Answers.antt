use Rattle.audit_laws.proofs.RunIsSound.{run-is_sound}
use Rattle.audit_laws.proofs.laws.tables_of_runs_are_sound.Goals as goal

pub returns : goal.returns
returns c = run-is_sound
