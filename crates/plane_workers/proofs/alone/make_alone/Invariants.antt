use Rattle.std.proofs.Common.{◌≡◌, List}
use Rattle.run_engine.specs.schedules.Watching.{WatchStands}
use Rattle.plane_workers.specs.Seen.{PlaysMore}
use Rattle.run_record.specs.declared.done.Done.{Done}
use Rattle.plane_workers.proofs.alone.make_alone.Given as goal

-- so many steps of the plane are made at least
abbrev pub invariant-loop : goal.invariant-loop
invariant-loop g l = record {
  made : (past : List Done) → WatchStands g.W.Watch.saw l.plan l.initial.engine l.initial.watch past → PlaysMore g.W.Watch.saw l.plan l.engine l.watch past l.actor l.counter;
  table : g.W.Watch.has_table l.watch ≡ g.W.Watch.has_table l.initial.watch;
}
