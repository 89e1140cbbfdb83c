use Rattle.std.proofs.Common.{◌≡◌, List}
use Rattle.call_script.specs.Tasks.{network_of}
use Rattle.run_engine.specs.runs.Turns.{plane_most}
use Rattle.run_engine.specs.schedules.Quiet.{the_plane}
use Rattle.plane_workers.specs.Lanes.{lane_left, lane_rules, lane_stands}
use Rattle.plane_workers.specs.Seen.{GoesTo, SeenWithin}
use Rattle.run_record.specs.declared.done.Done.{Done}
use Rattle.plane_workers.proofs.telling.tell_all.Given as goal

-- the steps so far
abbrev pub invariant-loop-plane : goal.invariant-loop-plane
invariant-loop-plane g l = record {
  goes : (past : List Done) → SeenWithin lane_rules lane_stands lane_left g.W.Watch.saw l.plan l.from l.until l.initial.lanes l.initial.plane l.initial.watch past
      → GoesTo (network_of l.plan) (the_plane (network_of l.plan)) past (SeenWithin lane_rules lane_stands lane_left g.W.Watch.saw l.plan l.from l.until l.lanes l.plane l.watch);
  rounds : l.plane.rounds ≡ l.initial.plane.rounds;
  table : g.W.Watch.has_table l.watch ≡ g.W.Watch.has_table l.initial.watch;
}

-- the plane has fewer steps left at most
abbrev pub decreases-loop-plane : goal.decreases-loop-plane
decreases-loop-plane g l = plane_most l.plane.links l.plane.rounds l.plane.at
