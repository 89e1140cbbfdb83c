use Rattle.std.proofs.Common.{◌≡◌, map, take}
use Rattle.question_plans.specs.Alone.{opens_of}
use Rattle.question_plans.proofs.alone.opening_callers.Given as goal

-- the callers so far
abbrev pub invariant-loop-caller : goal.invariant-loop-caller
invariant-loop-caller l = l.made.items ≡ map opens_of (take l.caller-index l.callers)
