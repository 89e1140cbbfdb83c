use Rattle.channel_laws.proofs.EntryLaws.{entries-change}
use Rattle.channel_laws.proofs.laws.entries_change_their_reservation.Goals as goal

pub returns : goal.returns
returns c = entries-change
