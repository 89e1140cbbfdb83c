-- It rests for fewer rounds too.
use Rattle.std.proofs.Common.{arith}
use Rattle.run_engine.proofs.Watched.RestedRounds.{fewer-engine}
use Rattle.call_times.proofs.making.rounds_at_most.Goals as goal

pub returns-clause-rests : goal.returns-clause-rests
returns-clause-rests c = λ some.
    let least = c.min.ensures in
    fewer-engine c.args.engine.now c.min.result c.rounds_at_rest.result (omega (arith, least)) (c.rounds_at_rest.ensures (omega (arith, least, some)))
