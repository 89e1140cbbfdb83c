-- The run that comes next begins at the clock.
use Rattle.std.proofs.Common.{sym, ◌∙◌, arith}
use Rattle.plane_workers.proofs.lane.Lane.quiet_from.Goals as goal

pub returns-in-Some : goal.returns-in-Some
returns-in-Some c = λ some. record { run = c.in-Some.run'; next = sym c.next_run.ensures ∙ c.in-Some.is; at = c.if-run-clock.true; many = omega arith }
