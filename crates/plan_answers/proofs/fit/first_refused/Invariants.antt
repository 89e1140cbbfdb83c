use Rattle.std.proofs.Common.{◌≡◌}
use Rattle.plan_answers.specs.Rooms.{refused_from}
use Rattle.plan_answers.specs.Trials.{run_in}
use Rattle.plan_answers.proofs.fit.first_refused.Given as goal

-- none before this number is refused
abbrev pub invariant-loop-number : goal.invariant-loop-number
invariant-loop-number l = refused_from (run_in l.trial) l.fn.first l.trial.plan.requests ≡ refused_from (run_in l.trial) l.number l.trial.plan.requests
