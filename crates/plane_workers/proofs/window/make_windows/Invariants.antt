use Rattle.std.proofs.Common.{◌≡◌, ◌-◌, ◌≤◌, List}
use Rattle.call_script.specs.Tasks.{network_of}
use Rattle.plane_workers.specs.Lanes.{lane_rules, lane_stands}
use Rattle.plane_workers.specs.Seen.{GoesTo, SeenBetween}
use Rattle.run_record.specs.declared.done.Done.{Done}
use Rattle.plane_workers.proofs.window.make_windows.Given as goal

-- the windows so far
abbrev pub invariant-loop-pace : goal.invariant-loop-pace
invariant-loop-pace g l = record {
  goes : (past : List Done) → SeenBetween lane_rules lane_stands g.W.Watch.saw l.job.plan.now l.job.gap l.initial.lanes l.initial.plane l.initial.watch past → GoesTo (network_of l.job.plan.now) l.job.actor past (SeenBetween lane_rules lane_stands g.W.Watch.saw l.job.plan.now l.job.gap l.lanes l.plane l.watch);
  at : l.part.until ≤ l.plane.at.round;
  rounds : l.plane.rounds ≡ l.job.rounds;
  gap : l.pace.gap ≡ l.job.gap;
  table : g.W.Watch.has_table l.watch ≡ g.W.Watch.has_table l.initial.watch;
}

-- the rounds that are left
abbrev pub decreases-loop-pace : goal.decreases-loop-pace
decreases-loop-pace g l = l.job.rounds - l.plane.at.round
