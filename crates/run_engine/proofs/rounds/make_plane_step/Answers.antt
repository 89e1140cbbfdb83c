-- The plane makes the tick that it asks for next, in each run that both stand for.
use Rattle.run_engine.proofs.Keeping.NextPlaneStep.{tick-asked}
use Rattle.run_engine.proofs.rounds.make_plane_step.Goals as goal

pub make_tick-requires : goal.make_tick-requires
make_tick-requires g c =
    let stand = c.requires.1 in
    (c.requires.0, record { stand = stand; asks = tick-asked c.args.plan.now c.args.engine.now.actors c.requires.0 c.next_tick.result c.in-Some.link stand.stands.plan stand.stands.actors c.next_tick.ensures.asked c.in-Some.is })

pub returns-in_ok-make_tick-in-Some-clause-goes_on : goal.returns-in_ok-make_tick-in-Some-clause-goes_on
returns-in_ok-make_tick-in-Some-clause-goes_on g c = λ more past stand.
    c.in_ok-make_tick-in-Some.ensures.goes_on past
    (record { stand = stand; asks = tick-asked c.args.plan.now c.args.engine.now.actors past c.next_tick.result c.in-Some.link stand.stands.plan stand.stands.actors c.next_tick.ensures.asked c.in-Some.is })
