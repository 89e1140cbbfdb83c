use Rattle.std.proofs.Common.{◌-◌}
use Rattle.answer_tables.specs.Ranges.{IsAcross, IsPartOf}
use Rattle.answer_tables.proofs.ranges.edge_of.Given as goal

abbrev pub decreases-loop-left : goal.decreases-loop-left
decreases-loop-left g l = l.left.high - l.left.low

abbrev pub invariant-loop-left : goal.invariant-loop-left
invariant-loop-left g l = record { across : IsAcross (g.A.AskedWithin.gives l.asked l.plan l.number) l.left; part : IsPartOf l.fn.across l.left }
