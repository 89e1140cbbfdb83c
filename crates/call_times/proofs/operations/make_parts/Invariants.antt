use Rattle.std.proofs.Common.{List}
use Rattle.call_times.specs.Makings.{IsTimeFor}
use Rattle.call_times.specs.declared.times.Times.{Times}
use Rattle.call_times.proofs.operations.make_parts.Given as goal

-- it is still time for the operation
abbrev pub invariant-loop : goal.invariant-loop
invariant-loop l = (times : List Times) → IsTimeFor l.plan times l.initial.making l.actor l.op → IsTimeFor l.plan times l.making l.actor l.op
