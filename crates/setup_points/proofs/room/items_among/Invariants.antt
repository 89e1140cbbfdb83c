use Rattle.std.proofs.Common.{◌≡◌, map, take}
use Rattle.run_engine.specs.schedules.Schedules.{turns_of}
use Rattle.setup_points.specs.Rooms.{actor_among}
use Rattle.setup_points.proofs.room.items_among.Given as goal

-- the items so far
abbrev pub invariant-loop-item : goal.invariant-loop-item
invariant-loop-item l = turns_of l.made.items ≡ map (actor_among l.callers l.more) (turns_of (take l.item-index l.items))
