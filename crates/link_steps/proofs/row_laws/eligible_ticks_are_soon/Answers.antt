use Rattle.link_steps.proofs.TicksBounded.{ticks-soon}
use Rattle.link_steps.proofs.row_laws.eligible_ticks_are_soon.Goals as goal

pub returns : goal.returns
returns c = ticks-soon
