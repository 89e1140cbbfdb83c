use Rattle.route_finder.proofs.OneLeastWalk.{has-one-least-walk}
use Rattle.route_finder.proofs.laws.there_is_one_least_walk.Goals as goal

pub returns : goal.returns
returns c = has-one-least-walk
