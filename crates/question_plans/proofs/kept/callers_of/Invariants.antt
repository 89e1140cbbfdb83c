use Rattle.std.proofs.Common.{◌≡◌, take}
use Rattle.question_plans.proofs.kept.callers_of.Given as goal

-- the callers so far
abbrev pub invariant-loop-caller : goal.invariant-loop-caller
invariant-loop-caller l = l.copied.items ≡ take l.caller-index l.callers
