use Rattle.std.proofs.Common.{◌≡◌, take}
use Rattle.question_plans.specs.Alone.{opens_in}
use Rattle.question_plans.proofs.alone.opens_among.Given as goal

-- the opens so far
abbrev pub invariant-loop-op : goal.invariant-loop-op
invariant-loop-op l = l.opens.items ≡ opens_in (take l.op-index l.ops)
