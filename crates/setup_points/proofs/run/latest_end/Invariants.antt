use Rattle.std.proofs.Common.{◌≡◌, reverse, take}
use Rattle.setup_points.specs.Starts.{end_of_all}
use Rattle.setup_points.proofs.run.latest_end.Given as goal

-- the latest of the ends so far
abbrev pub invariant-loop-number : goal.invariant-loop-number
invariant-loop-number l = l.latest ≡ end_of_all l.plan.requests (reverse l.entries) (take l.number-index l.numbers)
