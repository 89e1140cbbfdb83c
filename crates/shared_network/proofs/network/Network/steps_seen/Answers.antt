use Rattle.shared_network.proofs.CallSteps.PassAfterStep.{seen-goes}
use Rattle.shared_network.proofs.network.Network.steps_seen.Goals as goal

pub returns-clause-ready : goal.returns-clause-ready
returns-clause-ready g c = λ may. seen-goes _ _ _ c.seen.result _ _ c.seen.ensures.least c.seen.ensures.saw may
