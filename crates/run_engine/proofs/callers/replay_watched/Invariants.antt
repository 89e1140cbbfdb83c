use Rattle.std.proofs.Common.{◌≡◌, reverse, take}
use Rattle.run_engine.proofs.Words.{IsPlan}
use Rattle.run_engine.specs.schedules.Watching.{IsSeen}
use Rattle.run_engine.proofs.callers.replay_watched.Given as goal

-- the callers stand after the entries so far, which were seen
abbrev pub invariant-loop-done : goal.invariant-loop-done
invariant-loop-done g l = record {
  plan : IsPlan l.plan;
  seen : IsSeen g.W.Watch.saw l.plan l.callers l.watch (reverse (take l.done-index l.run.entries));
  table : g.W.Watch.has_table l.watch ≡ g.W.Watch.has_table l.initial.watch;
}
