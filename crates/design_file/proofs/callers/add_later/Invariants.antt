use Rattle.std.proofs.Common.{◌≡◌}
use Rattle.design_file.specs.Opened.{opened_so_far}
use Rattle.design_file.proofs.callers.add_later.Given as goal

-- no caller ends, and nothing is opened
abbrev pub invariant-loop-item : goal.invariant-loop-item
invariant-loop-item l = record {
  callers : l.draft.callers.items ≡ l.initial.draft.callers.items;
  same : opened_so_far l.draft.callers.items l.draft.ops.items ≡ opened_so_far l.initial.draft.callers.items l.initial.draft.ops.items;
}
