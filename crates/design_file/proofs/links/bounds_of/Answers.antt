use Rattle.std.proofs.Common.{◌∙◌}
use Rattle.design_file.proofs.links.bounds_of.Goals as goal

pub returns-in-Some : goal.returns-in-Some
returns-in-Some c = c.in-Some.ensures.value ∙ c.deref.ensures.value ∙ c.in_ok-ticks.ensures
