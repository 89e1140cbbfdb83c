use Rattle.channel_laws.proofs.EntryLaws.{asks-answered}
use Rattle.channel_laws.proofs.laws.asks_are_answered.Goals as goal

pub returns : goal.returns
returns c = asks-answered
