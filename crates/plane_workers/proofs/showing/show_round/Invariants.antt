use Rattle.std.proofs.Common.{◌≡◌, List, length}
use Rattle.run_record.specs.declared.done.Done.{Done}
use Rattle.plane_workers.specs.Showing.{Shows}
use Rattle.plane_workers.proofs.showing.show_round.Given as goal

-- the links so far
abbrev pub invariant-loop-place : goal.invariant-loop-place
invariant-loop-place g l = record {
  shows : (past : List Done) → Shows g.W.Watch.lags l.plan l.until l.round 0 l.initial.tracks l.initial.plane l.initial.watch past → Shows g.W.Watch.lags l.plan l.until l.round l.place l.tracks l.plane l.watch past;
  long : length l.tracks ≡ length l.initial.tracks;
  at : l.plane.at.round ≡ l.initial.plane.at.round;
  rounds : l.plane.rounds ≡ l.initial.plane.rounds;
  table : g.W.Watch.has_table l.watch ≡ g.W.Watch.has_table l.initial.watch;
}
