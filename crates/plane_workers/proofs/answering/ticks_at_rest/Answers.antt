-- No tick, where the link doesn't rest.
use Rattle.plane_workers.proofs.LinkAnswers.{none-more}
use Rattle.plane_workers.proofs.answering.ticks_at_rest.Goals as goal

pub returns-then-not-rests-clause-ticks : goal.returns-then-not-rests-clause-ticks
returns-then-not-rests-clause-ticks c = none-more c.args.asks.now c.args.made
