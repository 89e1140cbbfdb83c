use Rattle.std.proofs.Common.{reverse, take}
use Rattle.run_engine.proofs.Words.{IsPlan}
use Rattle.run_engine.specs.schedules.Standing.{CallersStand}
use Rattle.run_engine.proofs.callers.replay.Given as goal

-- the callers stand after the entries so far
abbrev pub invariant-loop-done : goal.invariant-loop-done
invariant-loop-done l = record { plan : IsPlan l.plan; stand : CallersStand l.plan l.callers (reverse (take l.done-index l.run.entries)) }
