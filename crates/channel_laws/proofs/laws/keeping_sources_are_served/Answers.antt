use Rattle.channel_laws.proofs.FirstSource.{source-served}
use Rattle.channel_laws.proofs.laws.keeping_sources_are_served.Goals as goal

pub returns : goal.returns
returns c = source-served
