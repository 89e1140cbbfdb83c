use Rattle.std.proofs.Common.{ap, ap₂, ◌∙◌}
use Rattle.design_file.specs.Opened.{opened_so_far}
use Rattle.design_file.proofs.OpenedSoFar.{caller-ends}
use Rattle.design_file.proofs.callers.ended.Goals as goal

pub returns-clause-same : goal.returns-clause-same
returns-clause-same c =
    ap₂ opened_so_far c.in_ok-push.ensures.items c.new-2.ensures.items
    ∙ caller-ends c.add_later.new.draft.callers.items (record { name = c.in_ok-name.name; group = c.unwrap_or.result; ops = c.new.result })
    ∙ ap (opened_so_far c.add_later.new.draft.callers.items) c.new.ensures
    ∙ c.in_ok-add_later.ensures.same
