use Rattle.std.proofs.Common.{reverse, take}
use Rattle.answer_tables.specs.Together.{IsWithEach}
use Rattle.answer_tables.proofs.together.with_each.Given as goal

-- the plan has the copies of the numbers so far
abbrev pub invariant-loop-number : goal.invariant-loop-number
invariant-loop-number l = IsWithEach l.plan (reverse (take l.number-index l.numbers)) l.count l.made
