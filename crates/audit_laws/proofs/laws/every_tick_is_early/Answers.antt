use Rattle.audit_laws.proofs.SmallRuns.{every-tick-is-early}
use Rattle.audit_laws.proofs.laws.every_tick_is_early.Goals as goal

pub returns : goal.returns
returns c = every-tick-is-early
