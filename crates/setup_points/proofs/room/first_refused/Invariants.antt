use Rattle.std.proofs.Common.{◌≡◌}
use Rattle.answer_tables.specs.Together.{first_refused}
use Rattle.setup_points.specs.Runs.{run_in}
use Rattle.setup_points.proofs.room.first_refused.Given as goal

-- none before this number is refused
abbrev pub invariant-loop-at : goal.invariant-loop-at
invariant-loop-at l = first_refused (run_in l.run) l.fn.first l.plan.requests ≡ first_refused (run_in l.run) l.at l.plan.requests
