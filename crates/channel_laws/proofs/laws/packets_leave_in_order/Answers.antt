use Rattle.channel_laws.proofs.DepartedCount.{offered-sends}
use Rattle.channel_laws.proofs.laws.packets_leave_in_order.Goals as goal

pub returns : goal.returns
returns c = offered-sends
