use Rattle.std.proofs.Common.{◌≡◌, map, take}
use Rattle.call_script.specs.Parts.{opening_of}
use Rattle.design_file.specs.Opened.{opened_so_far}
use Rattle.design_file.proofs.callers.opened.Given as goal

-- the requests so far are opened
abbrev pub invariant-loop-entry : goal.invariant-loop-entry
invariant-loop-entry l = opened_so_far l.draft.callers.items l.draft.ops.items ≡ map opening_of (take l.entry-index l.requests)
