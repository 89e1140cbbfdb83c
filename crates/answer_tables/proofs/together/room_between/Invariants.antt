use Rattle.std.proofs.Common.{◌-◌}
use Rattle.answer_tables.specs.Together.{LiesBetween}
use Rattle.answer_tables.proofs.together.room_between.Given as goal

abbrev pub decreases-loop-left : goal.decreases-loop-left
decreases-loop-left g l = l.left.refused - l.left.accepted

abbrev pub invariant-loop-left : goal.invariant-loop-left
invariant-loop-left g l = LiesBetween (g.T.TriesMore.tries l.more l.plan l.numbers) l.left
