use Rattle.std.proofs.Common.{◌-◌}
use Rattle.net_units.specs.Limits.{most_delay}
use Rattle.answer_tables.specs.Ranges.{HasSeen, hops_of}
use Rattle.answer_tables.proofs.ranges.ranges_asked.Given as goal

abbrev pub decreases-loop-sweep : goal.decreases-loop-sweep
decreases-loop-sweep g l = most_delay - l.sweep.at

abbrev pub invariant-loop-sweep : goal.invariant-loop-sweep
invariant-loop-sweep g l = HasSeen (g.A.AskedWithin.gives l.asked l.plan l.number) (hops_of l.plan l.number) l.ranges.items l.sweep
