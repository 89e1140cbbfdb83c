use Rattle.std.proofs.Common.{◌≡◌, take}
use Rattle.plan_answers.specs.Trials.{run_in}
use Rattle.variant_answers.specs.Outcomes.{promised_in}
use Rattle.variant_answers.proofs.outcome.promised_in.Given as goal

-- the promises to the requests so far
abbrev pub invariant-loop-number : goal.invariant-loop-number
invariant-loop-number l = l.delays.items ≡ promised_in (run_in l.trial) (take l.number l.trial.plan.requests)
