use Rattle.std.proofs.Common.{ap₂, ◌∙◌}
use Rattle.design_file.specs.Opened.{opened_so_far}
use Rattle.design_file.proofs.OpenedSoFar.{nothing-opened}
use Rattle.design_file.proofs.callers.empty.Goals as goal

pub returns : goal.returns
returns c = ap₂ opened_so_far c.new.ensures.items c.new-3.ensures.items ∙ nothing-opened
