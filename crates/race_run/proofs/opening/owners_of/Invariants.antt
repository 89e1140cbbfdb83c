use Rattle.std.proofs.Common.{◌≡◌, map, take}
use Rattle.race_run.specs.Callers.{caller_of}
use Rattle.race_run.proofs.opening.owners_of.Given as goal

-- one owner a request so far
abbrev pub invariant-loop-entry : goal.invariant-loop-entry
invariant-loop-entry l = l.owners.items ≡ map caller_of (take l.entry-index l.entries)
