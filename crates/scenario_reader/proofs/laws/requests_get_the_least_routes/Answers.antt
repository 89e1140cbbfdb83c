use Rattle.scenario_reader.proofs.Passing.ReadRoutes.{requests-get_least_routes}
use Rattle.scenario_reader.proofs.laws.requests_get_the_least_routes.Goals as goal

pub returns : goal.returns
returns c = requests-get_least_routes
