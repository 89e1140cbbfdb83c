use Rattle.std.proofs.Common.{◌≡◌}
use Rattle.design_file.specs.Opened.{opened_so_far}
use Rattle.design_file.proofs.callers.up_to.Given as goal

-- nothing more is opened
abbrev pub invariant-loop : goal.invariant-loop
invariant-loop l = opened_so_far l.draft.callers.items l.draft.ops.items ≡ opened_so_far l.fn.begun.callers.items l.fn.begun.ops.items
