use Rattle.race_run_tests.proofs.tests.moves.callers.Goals as goal

pub returns : goal.returns
returns c = rw (c.in_ok-push.ensures.items, c.new-callers.ensures.items) c.in_ok-mover.ensures
