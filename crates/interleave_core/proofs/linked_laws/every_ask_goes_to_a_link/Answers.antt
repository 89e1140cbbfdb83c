use Rattle.run_engine.proofs.Tasks.LinksAsked.{asks-linked}
use Rattle.interleave_core.proofs.linked_laws.every_ask_goes_to_a_link.Goals as goal

pub returns : goal.returns
returns c = asks-linked
