use Rattle.std.proofs.Common.{◌≡◌, length}
use Rattle.run_engine.proofs.Keeping.KeptActors.{CallersMade}
use Rattle.run_engine.proofs.callers.Callers.new.Given as goal

-- the callers so far
abbrev pub invariant-loop-number : goal.invariant-loop-number
invariant-loop-number l = record { count : length l.by_number.items ≡ l.number; made : CallersMade l.plan l.by_number.items }
