use Rattle.std.proofs.Common.{reverse, sym, ◌∙◌}
use Rattle.packet_answers.proofs.sources.follows.Goals as goal
use Rattle.traffic_contract.proofs.TicksInOrder.{follow-then, follow-else}

pub returns-then-is_after : goal.returns-then-is_after
returns-then-is_after c =
    c.is_after-then-is_after.ensures
    ∙ follow-then c.args.contract.now (reverse c.args.ticks.now) c.args.sent c.xmin.result c.interval.result c.burst.result c.xmin.ensures.value c.interval.ensures.value c.burst.ensures.value (sym c.is_after.ensures ∙ c.if-is_after.true)

pub returns-else-is_after : goal.returns-else-is_after
returns-else-is_after c = c.if-is_after.false ∙ follow-else c.args.contract.now (reverse c.args.ticks.now) c.args.sent c.xmin.result c.xmin.ensures.value (sym c.is_after.ensures ∙ c.if-is_after.false)
