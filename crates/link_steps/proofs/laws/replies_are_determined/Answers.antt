use Rattle.link_steps.proofs.RulesAsMeant.{legal-answered, legal-determined}
use Rattle.link_steps.proofs.laws.replies_are_determined.Goals as goal

pub returns : goal.returns
returns c = record { goes_on = legal-answered; only = legal-determined }
