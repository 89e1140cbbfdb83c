use Rattle.std.proofs.Common.{sym, ◌∙◌}
use Rattle.design_file.proofs.OpenedSoFar.{ended-all}
use Rattle.design_file.proofs.callers.callers_of.Goals as goal

pub returns : goal.returns
returns c =
    sym (ended-all c.in_ok-draft-3.draft.callers.items c.in_ok-draft-3.draft.ops.items c.in_ok-draft-3.ensures.empty)
    ∙ c.in_ok-draft-3.ensures.same ∙ c.in_ok-draft-2.ensures ∙ c.in_ok-draft.ensures
