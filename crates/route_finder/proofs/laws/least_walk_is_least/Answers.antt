use Rattle.route_finder.proofs.LeastWalk.{finds-least-walk}
use Rattle.route_finder.proofs.laws.least_walk_is_least.Goals as goal

pub returns : goal.returns
returns c = finds-least-walk
