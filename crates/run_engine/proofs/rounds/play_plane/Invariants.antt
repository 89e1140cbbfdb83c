use Rattle.std.proofs.Common.{◌≡◌, List}
use Rattle.run_engine.proofs.Words.{network_of, Done}
use Rattle.run_engine.specs.schedules.Quiet.{the_plane}
use Rattle.run_engine.specs.schedules.Watching.{WatchStands}
use Rattle.run_engine.proofs.Watched.WatchedStrides.{PlaysAtLeast}
use Rattle.run_engine.proofs.rounds.play_plane.Given as goal

-- so many steps of the plane are made at least
abbrev pub invariant-loop : goal.invariant-loop
invariant-loop g l = record {
  made : (past : List Done) → WatchStands g.W.Watch.saw l.plan l.initial.engine l.initial.watch past → PlaysAtLeast g.W.Watch.saw l.plan l.engine l.watch past (the_plane (network_of l.plan)) l.counter;
  table : g.W.Watch.has_table l.watch ≡ g.W.Watch.has_table l.initial.watch;
}
