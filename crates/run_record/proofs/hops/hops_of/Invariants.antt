use Rattle.std.proofs.Common.{take}
use Rattle.run_record.specs.Hops.{AreHops}
use Rattle.run_record.proofs.hops.hops_of.Given as goal

-- the table has the hops by the entries so far
abbrev pub invariant-loop-done : goal.invariant-loop-done
invariant-loop-done l = AreHops (take l.done-index l.entries) l.table.items
