use Rattle.std.proofs.Common.{take}
use Rattle.link_steps.specs.Lists.{Each}
use Rattle.run_engine.specs.schedules.Schedules.{IsActorOf}
use Rattle.setup_points.proofs.run.unknown_actor.Given as goal

-- the plan has the actors so far
abbrev pub invariant-loop-item : goal.invariant-loop-item
invariant-loop-item l = Each (IsActorOf l.plan) (take l.item-index l.items)
