use Rattle.traffic_contract.proofs.LeastEligibleTick.{eligible-exists, eligible-unique}
use Rattle.traffic_contract.proofs.laws.the_eligible_tick_is_the_least.Goals as goal

pub returns-clause-exists : goal.returns-clause-exists
returns-clause-exists c = eligible-exists

pub returns-clause-unique : goal.returns-clause-unique
returns-clause-unique c = eligible-unique
