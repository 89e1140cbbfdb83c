use Rattle.std.proofs.Common.{◌≤◌, take}
use Rattle.link_steps.specs.Lists.{Each}
use Rattle.link_ledger.specs.declared.entries.Entry.{Entry}
use Rattle.race_run.proofs.order.later.Given as goal

-- no stamp so far is above it
abbrev pub invariant-loop-entry : goal.invariant-loop-entry
invariant-loop-entry l = record {
  least : l.fn.stamp ≤ l.latest;
  all : Each (λ (e : Entry). e.stamp ≤ l.latest) (take l.entry-index l.entries);
}
