use Rattle.std.proofs.Common.{reverse, take}
use Rattle.setup_points.specs.Rooms.{IsWithEachAfter}
use Rattle.setup_points.proofs.room.with_each.Given as goal

-- the plan has the copies of the numbers so far
abbrev pub invariant-loop-number : goal.invariant-loop-number
invariant-loop-number l = IsWithEachAfter l.plan (reverse (take l.number-index l.numbers)) l.count l.made
