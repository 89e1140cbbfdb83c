use Rattle.std.proofs.Common.{IfSome}
use Rattle.call_times.specs.Makings.{IsDue}
use Rattle.call_times.proofs.scheduling.next_due.Given as goal

-- what was found so far is due
abbrev pub invariant-loop-caller : goal.invariant-loop-caller
invariant-loop-caller l = IfSome l.next (IsDue l.times)
