use Rattle.std.proofs.Common.{◌≡◌}
use Rattle.plan_answers.specs.Trials.{run_in}
use Rattle.answer_tables.specs.Together.{first_refused}
use Rattle.answer_tables.proofs.together.first_refused.Given as goal

-- none before this number is refused
abbrev pub invariant-loop-at : goal.invariant-loop-at
invariant-loop-at l = first_refused (run_in l.trial) l.fn.first l.trial.plan.requests ≡ first_refused (run_in l.trial) l.at l.trial.plan.requests
