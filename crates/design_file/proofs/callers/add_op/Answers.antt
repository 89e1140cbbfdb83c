use Rattle.std.proofs.Common.{ap, ◌∙◌}
use Rattle.design_file.specs.Opened.{opened_so_far}
use Rattle.design_file.proofs.OpenedSoFar.{one-more-op}
use Rattle.design_file.proofs.callers.add_op.Goals as goal

pub returns-clause-opened : goal.returns-clause-opened
returns-clause-opened c = ap (opened_so_far c.args.draft.now.callers.items) c.in_ok-push-2.ensures.items ∙ one-more-op c.args.draft.now.callers.items c.args.draft.now.ops.items c.args.op
