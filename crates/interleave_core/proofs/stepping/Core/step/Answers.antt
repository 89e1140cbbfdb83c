use Rattle.interleave_core.proofs.Cores.{run-guaranteed}
use Rattle.interleave_core.proofs.stepping.Core.step.Goals as goal

pub returns-clause-guaranteed : goal.returns-clause-guaranteed
returns-clause-guaranteed c = run-guaranteed c.args.plan.now c.make_step.new.self c.make_step.ensures.stands
