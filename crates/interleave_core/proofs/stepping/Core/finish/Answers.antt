use Rattle.interleave_core.proofs.Cores.{run-guaranteed}
use Rattle.interleave_core.proofs.stepping.Core.finish.Goals as goal

pub returns-clause-guaranteed : goal.returns-clause-guaranteed
returns-clause-guaranteed c = λ parts stands. run-guaranteed parts c.args.self stands
