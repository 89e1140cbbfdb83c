-- The callers have played out, and then the plane.
use Rattle.std.proofs.Common.{length, refl, ◌∙◌}
use Rattle.net_units.specs.Numbers.{actor_at}
use Rattle.run_engine.proofs.Watched.WatchedSteps.{one-out, played-all}
use Rattle.plane_workers.proofs.playing.played_watched.Goals as goal

pub make_rounds-requires-clause-stand : goal.make_rounds-requires-clause-stand
make_rounds-requires-clause-stand g c κs within = (c.in_ok-play_callers.ensures.played.run, c.in_ok-play_callers.ensures.played.stand)

pub returns-clause-played : goal.returns-clause-played
returns-clause-played g c =
    let n = length c.args.plan.now.callers in
    played-all g.W.Watch.saw c.args.plan.now c.args.schedule.now c.in_ok-engine-2.engine c.make_rounds.new.watch c.into_callers.result c.if-schedule.false c.into_callers.ensures
    (one-out g.W.Watch.saw c.args.plan.now c.play_callers.new.engine c.in_ok-engine-2.engine c.play_callers.new.watch c.make_rounds.new.watch n (actor_at n) refl c.in_ok-play_callers.ensures.played c.in_ok-engine-2.ensures.out)

pub returns-clause-table : goal.returns-clause-table
returns-clause-table g c = c.in_ok-engine-2.ensures.table ∙ c.in_ok-play_callers.ensures.table
