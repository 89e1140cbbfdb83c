use Rattle.std.proofs.Common.{◌≡◌, List}
use Rattle.run_record.specs.declared.done.Done.{Done}
use Rattle.plane_workers.specs.Showing.{Shows}
use Rattle.plane_workers.proofs.showing.show_rounds.Given as goal

-- the rounds so far
abbrev pub invariant-loop-round : goal.invariant-loop-round
invariant-loop-round g l = record {
  shows : (past : List Done) → Shows g.W.Watch.lags l.plan l.until l.from 0 l.initial.tracks l.initial.plane l.initial.watch past → Shows g.W.Watch.lags l.plan l.until l.round 0 l.tracks l.plane l.watch past;
  at : l.plane.at.round ≡ l.initial.plane.at.round;
  rounds : l.plane.rounds ≡ l.initial.plane.rounds;
  table : g.W.Watch.has_table l.watch ≡ g.W.Watch.has_table l.initial.watch;
}
