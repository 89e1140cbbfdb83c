use Rattle.std.proofs.Common.{◌∙◌}
use Rattle.packet_answers.proofs.sources.is_after.Goals as goal
use Rattle.traffic_contract.proofs.TicksInOrder.{places-back}

pub returns : goal.returns
returns c = c.is_apart.ensures ∙ places-back c.args.ticks.now c.args.back c.args.least c.args.sent c.requires c.if-ticks-back.false
