use Rattle.run_engine.specs.schedules.Schedules.{turns_of}
use Rattle.setup_points.specs.Rooms.{AreFollowedBy, openers}
use Rattle.setup_points.proofs.room.with_openers.Given as goal

-- the callers so far have made their steps
abbrev pub invariant-loop-kind : goal.invariant-loop-kind
invariant-loop-kind l = AreFollowedBy (turns_of l.fn.front.items) (openers l.first l.kind) (turns_of l.items.items)
