use Rattle.std.proofs.Common.{◌≤◌, take}
use Rattle.race_run.specs.Tail.{AreUpTo}
use Rattle.race_run.proofs.tail.latest_of.Given as goal

-- no stamp so far is above it
abbrev pub invariant-loop-entry : goal.invariant-loop-entry
invariant-loop-entry l = record {
  least : l.fn.stamp ≤ l.latest;
  all : AreUpTo l.latest (take l.entry-index l.entries);
}
