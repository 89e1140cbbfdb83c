use Rattle.std.proofs.Common.{take}
use Rattle.race_run.specs.Order.{IsMarked}
use Rattle.race_run.proofs.order.mark.Given as goal

-- the number stands at the stamps so far
abbrev pub invariant-loop-entry : goal.invariant-loop-entry
invariant-loop-entry l = IsMarked l.number (take l.entry-index l.entries) l.initial.order.items l.order.items
