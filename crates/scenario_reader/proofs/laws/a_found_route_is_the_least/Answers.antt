use Rattle.scenario_reader.proofs.Finding.LeastRoutes.{finds-least-routes}
use Rattle.scenario_reader.proofs.laws.a_found_route_is_the_least.Goals as goal

pub returns : goal.returns
returns c = finds-least-routes
