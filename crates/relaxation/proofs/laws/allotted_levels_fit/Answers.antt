use Rattle.relaxation.proofs.RouteAllotment.{allotted-fit}
use Rattle.relaxation.proofs.laws.allotted_levels_fit.Goals as goal

pub returns : goal.returns
returns c = allotted-fit
