use Rattle.channel_laws.proofs.EntryLaws.{packets-may-move}
use Rattle.channel_laws.proofs.laws.planned_packets_may_move.Goals as goal

pub returns : goal.returns
returns c = packets-may-move
