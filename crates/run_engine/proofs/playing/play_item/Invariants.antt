use Rattle.std.proofs.Common.{◌≡◌, ◌-◌, ◌≤◌, List}
use Rattle.run_engine.proofs.Words.{Done}
use Rattle.run_engine.specs.schedules.Schedules.{repeated}
use Rattle.run_engine.specs.schedules.Watching.{PlaysOn, WatchStands}
use Rattle.run_engine.proofs.playing.play_item.Given as goal

-- the turns but for those that are left are made
abbrev pub invariant-loop-left : goal.invariant-loop-left
invariant-loop-left g l = record {
  few : l.left ≤ l.item.count;
  made : (past : List Done) → WatchStands g.W.Watch.saw l.plan l.initial.engine l.initial.watch past → PlaysOn g.W.Watch.saw l.plan l.engine l.watch past (repeated (l.item.count - l.left) l.item.actor);
  table : g.W.Watch.has_table l.watch ≡ g.W.Watch.has_table l.initial.watch;
}

abbrev pub decreases-loop-left : goal.decreases-loop-left
decreases-loop-left g l = l.left
