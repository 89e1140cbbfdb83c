use Rattle.std.proofs.Common.{◌≡◌, ◌-◌, List}
use Rattle.run_engine.specs.schedules.Watching.{WatchStands}
use Rattle.plane_workers.specs.Seen.{PlaysMore}
use Rattle.run_record.specs.declared.done.Done.{Done}
use Rattle.plane_workers.proofs.rounds.make_rounds.Given as goal

-- the parts so far
abbrev pub invariant-loop-job : goal.invariant-loop-job
invariant-loop-job g l = record {
  made : (past : List Done) → WatchStands g.W.Watch.saw l.plan l.initial.engine l.initial.watch past → PlaysMore g.W.Watch.saw l.plan l.engine l.watch past l.job.actor 0;
  gap : l.pace.gap ≡ l.gap;
  table : g.W.Watch.has_table l.watch ≡ g.W.Watch.has_table l.initial.watch;
}

-- the rounds that are left
abbrev pub decreases-loop-job : goal.decreases-loop-job
decreases-loop-job g l = l.rounds - l.engine.actors.plane.at.round
