use Rattle.std.proofs.Common.{take}
use Rattle.link_steps.specs.Lists.{Each}
use Rattle.race_run.specs.Order.{AreStampedUpTo}
use Rattle.race_run.proofs.order.latest_in.Given as goal

-- no stamp so far is above it
abbrev pub invariant-loop-journal : goal.invariant-loop-journal
invariant-loop-journal l = Each (AreStampedUpTo l.latest) (take l.journal-index l.journals)
