use Rattle.std.proofs.Common.{◌≡◌, ◌-◌, ◌≤◌, List}
use Rattle.run_engine.proofs.Words.{network_of, Done}
use Rattle.run_engine.specs.schedules.Quiet.{the_plane}
use Rattle.run_engine.specs.schedules.Schedules.{repeated}
use Rattle.run_engine.specs.schedules.Watching.{PlaysOn, WatchStands}
use Rattle.run_engine.proofs.rounds.make_round.Given as goal

-- so many turns of the plane are made
abbrev pub invariant-loop-made : goal.invariant-loop-made
invariant-loop-made g l = record {
  few : l.made ≤ l.most;
  plays : (past : List Done) → WatchStands g.W.Watch.saw l.plan l.initial.engine l.initial.watch past → PlaysOn g.W.Watch.saw l.plan l.engine l.watch past (repeated l.made (the_plane (network_of l.plan)));
  table : g.W.Watch.has_table l.watch ≡ g.W.Watch.has_table l.initial.watch;
}

abbrev pub decreases-loop-made : goal.decreases-loop-made
decreases-loop-made g l = l.most - l.made
