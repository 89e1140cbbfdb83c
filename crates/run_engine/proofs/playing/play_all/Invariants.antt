use Rattle.std.proofs.Common.{◌≡◌}
use Rattle.run_engine.specs.schedules.Watching.{HavePlayedOut}
use Rattle.run_engine.proofs.playing.play_all.Given as goal

-- the actors so far have played out
abbrev pub invariant-loop-number : goal.invariant-loop-number
invariant-loop-number g l = record {
  played : HavePlayedOut g.W.Watch.saw l.plan l.engine l.watch l.number;
  table : g.W.Watch.has_table l.watch ≡ g.W.Watch.has_table l.initial.watch;
}
