-- The plane makes what it asks next, in each run that both stand for, or it asks nothing.
use Rattle.std.proofs.Common.{sym, ◌∙◌}
use Rattle.run_engine.proofs.Keeping.NextPlaneStep.{asked-surely, plane-asked}
use Rattle.run_engine.proofs.rounds.make_asked.Goals as goal

pub step_watched-requires-clause-asked : goal.step_watched-requires-clause-asked
step_watched-requires-clause-asked g c =
    let stand = c.requires.1 in
    (c.requires.0, record { stand = stand; asks = plane-asked c.args.plan.now c.args.engine.now.actors c.requires.0 c.next_ask.result stand.stands.plan stand.stands.actors c.next_ask.ensures.asked ∙ c.in-Some.is })

pub step_watched-requires-clause-sure : goal.step_watched-requires-clause-sure
step_watched-requires-clause-sure g c =
    let plane = c.args.engine.now.actors.plane in
    asked-surely plane.rounds plane.at c.in-Some.link c.in-Some.ask (sym c.in-Some.is ∙ c.next_ask.ensures.asked)

pub returns-in_ok-step_watched-in-Some-clause-goes_on : goal.returns-in_ok-step_watched-in-Some-clause-goes_on
returns-in_ok-step_watched-in-Some-clause-goes_on g c = λ more past stand.
    c.in_ok-step_watched-in-Some.ensures.goes_on past (record { stand = stand; asks = plane-asked c.args.plan.now c.args.engine.now.actors past c.next_ask.result stand.stands.plan stand.stands.actors c.next_ask.ensures.asked ∙ c.in-Some.is })

pub returns-in-None-clause-over : goal.returns-in-None-clause-over
returns-in-None-clause-over g c = λ none past stand.
    record { none = plane-asked c.args.plan.now c.args.engine.now.actors past c.next_ask.result stand.stands.plan stand.stands.actors c.next_ask.ensures.asked ∙ c.in-None.is; stand = stand }
