use Rattle.answer_tables.proofs.EdgesFound.{part-of-part, edge-of-part}
use Rattle.answer_tables.proofs.ranges.edge_near.Goals as goal

pub returns : goal.returns
returns g c =
    let part = part-of-part c.args.across c.in_ok-left.left c.in_ok-left-2.left c.in_ok-left.ensures.part c.in_ok-left-2.ensures.part in
    edge-of-part (g.A.AskedWithin.gives c.args.asked.now c.args.plan.now c.args.number) c.args.across c.in_ok-left-2.left c.in_ok-edge.edge part c.in_ok-edge.ensures
