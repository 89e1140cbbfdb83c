use Rattle.std.proofs.Common.{subst}
use Rattle.tenet_app.specs.Racing.{AnswersRace}
use Rattle.tenet_app.proofs.RaceWritten.{plan-raced, none-raced}
use Rattle.tenet_app.proofs.racing.race.Goals as goal

pub returns-in-Ok-clause-races : goal.returns-in-Ok-clause-races
returns-in-Ok-clause-races g c =
    let reads = c.in-Ok.ensures.reads in
    plan-raced c.args.packets _ _ c.race_plan.result.status c.race_plan.result.raced c.in-Ok.plan reads.unused reads.plan reads.read reads.ended
    (subst (λ sink. AnswersRace c.args.packets c.in-Ok.plan c.race_plan.result.status c.race_plan.result.raced (g.K.Sink.written sink) (g.K.Sink.written c.race_plan.new.sink) (g.K.Sink.faults sink) (g.K.Sink.faults c.race_plan.new.sink))
    c.in-Ok.ensures.unwritten c.race_plan.ensures.answers)

pub returns-in-Err-clause-races : goal.returns-in-Err-clause-races
returns-in-Err-clause-races g c = none-raced c.args.packets _ _ c.in-Err.status c.in-Err.ensures.reads
