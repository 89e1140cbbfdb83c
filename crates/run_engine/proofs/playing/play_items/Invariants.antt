use Rattle.std.proofs.Common.{◌≡◌, [], take}
use Rattle.run_engine.specs.schedules.Schedules.{turns_of}
use Rattle.run_engine.specs.schedules.Watching.{PlaysOn}
use Rattle.run_engine.proofs.playing.play_items.Given as goal

-- the items so far are played
abbrev pub invariant-loop-item : goal.invariant-loop-item
invariant-loop-item g l = record {
  plays : PlaysOn g.W.Watch.saw l.plan l.engine l.watch [] (turns_of (take l.item-index l.items));
  table : g.W.Watch.has_table l.watch ≡ g.W.Watch.has_table l.initial.watch;
}
