-- The schedule's items are played, or each actor to its end, and the callers are those of the engine.
use Rattle.std.proofs.Common.{sym, ap, subst, ◌∙◌}
use Rattle.run_engine.specs.schedules.Watching.{IsPlayedSeen}
use Rattle.run_engine.specs.declared.engine.Engine.{Engine}
use Rattle.run_engine.proofs.Watched.WatchedSteps.{played-items, played-all}
use Rattle.run_engine.proofs.playing.play_watched.Goals as goal
use Rattle.run_engine.proofs.playing.play_watched.Goals.{then-schedule+in_ok-play_items, else-schedule+in_ok-play_all}

pub play_items-requires-clause-stand : goal.play_items-requires-clause-stand
play_items-requires-clause-stand g c = record { stands = c.in_ok-engine.ensures; seen = c.requires.fresh }

pub play_all-requires : goal.play_all-requires
play_all-requires g c = record { stands = c.in_ok-engine.ensures; seen = c.requires.fresh }

pub returns-clause-played : goal.returns-clause-played
returns-clause-played g c =
    elim c.if-schedule.branch [
      | then-schedule+in_ok-play_items w ↦
          subst (IsPlayedSeen g.W.Watch.saw c.args.plan.now c.args.schedule.now c.into_callers.result) (sym w.watch-is)
          (played-items g.W.Watch.saw c.args.plan.now c.args.schedule.now w.as_slice.result.now w.play_items.new.engine w.play_items.new.watch c.into_callers.result w.if-schedule.true w.as_slice.ensures (c.into_callers.ensures ∙ ap (λ (e : Engine). e.actors.callers) w.engine-is) w.in_ok-play_items.ensures.follows)
      | else-schedule+in_ok-play_all w ↦
          subst (IsPlayedSeen g.W.Watch.saw c.args.plan.now c.args.schedule.now c.into_callers.result) (sym w.watch-is)
          (played-all g.W.Watch.saw c.args.plan.now c.args.schedule.now w.play_all.new.engine w.play_all.new.watch c.into_callers.result w.if-schedule.false (c.into_callers.ensures ∙ ap (λ (e : Engine). e.actors.callers) w.engine-is) w.in_ok-play_all.ensures.played)
    ]
