-- A step is one turn.
use Rattle.std.proofs.Common.{sym, ◌∙◌}
use Rattle.run_engine.proofs.Watched.WatchedStrides.{plays-once}
use Rattle.run_engine.proofs.Watched.WatchedSteps.{plays-none, plays-one}
use Rattle.run_engine.proofs.playing.make_some.Goals as goal

pub returns-in_ok-make_watched-in-Some-clause-plays : goal.returns-in_ok-make_watched-in-Some-clause-plays
returns-in_ok-make_watched-in-Some-clause-plays g c = λ past stand.
    plays-once g.W.Watch.saw c.args.plan.now c.make_watched.new.engine c.make_watched.new.watch past c.args.actor
    (plays-one g.W.Watch.saw c.args.plan.now c.make_watched.new.engine c.make_watched.new.watch past c.args.actor
    (c.in_ok-make_watched-in-Some.ensures.goes_on past (record { stand = stand; asks = sym (c.next_ask.ensures past stand.stands) ∙ c.in-Some.is })))

pub returns-in-None-clause-plays : goal.returns-in-None-clause-plays
returns-in-None-clause-plays g c = λ past stand. plays-none g.W.Watch.saw c.args.plan.now c.args.engine.now c.args.watch.now past c.args.actor stand
