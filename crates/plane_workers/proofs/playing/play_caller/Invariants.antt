use Rattle.std.proofs.Common.{◌≡◌, List}
use Rattle.run_engine.specs.schedules.Schedules.{repeated}
use Rattle.run_engine.specs.schedules.Watching.{PlaysOn, WatchStands}
use Rattle.run_record.specs.declared.done.Done.{Done}
use Rattle.plane_workers.proofs.playing.play_caller.Given as goal

-- so many steps of the caller are made
abbrev pub invariant-loop : goal.invariant-loop
invariant-loop g l = record {
  made : (past : List Done) → WatchStands g.W.Watch.saw l.plan l.initial.engine l.initial.watch past → PlaysOn g.W.Watch.saw l.plan l.engine l.watch past (repeated l.counter l.actor);
  table : g.W.Watch.has_table l.watch ≡ g.W.Watch.has_table l.initial.watch;
}
