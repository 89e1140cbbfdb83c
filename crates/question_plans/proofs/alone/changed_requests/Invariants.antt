use Rattle.std.proofs.Common.{◌≡◌, map, take}
use Rattle.question_plans.specs.Alone.{changed}
use Rattle.question_plans.proofs.alone.changed_requests.Given as goal

-- the requests so far, with what is wanted
abbrev pub invariant-loop-entry : goal.invariant-loop-entry
invariant-loop-entry l = l.made.items ≡ map (changed l.change) (take l.entry-index l.requests)
