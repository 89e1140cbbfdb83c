use Rattle.std.proofs.Common.{◌≡◌, List}
use Rattle.run_engine.proofs.Words.{Done}
use Rattle.run_engine.specs.schedules.Watching.{WatchStands}
use Rattle.run_engine.proofs.Watched.WatchedStrides.{PlaysAtLeast}
use Rattle.run_engine.proofs.playing.make_all.Given as goal

-- so many steps of the actor are made at least
abbrev pub invariant-loop : goal.invariant-loop
invariant-loop g l = record {
  made : (past : List Done) → WatchStands g.W.Watch.saw l.plan l.initial.engine l.initial.watch past → PlaysAtLeast g.W.Watch.saw l.plan l.engine l.watch past l.actor l.counter;
  table : g.W.Watch.has_table l.watch ≡ g.W.Watch.has_table l.initial.watch;
}
