use Rattle.std.proofs.Common.{◌-◌, ◌≤◌}
use Rattle.tick_plane.specs.AskedRuns.{ticks}
use Rattle.plane_workers.specs.Tracks.{TellsMore}
use Rattle.plane_workers.proofs.told.make_ticks.Given as goal

-- the ticks so far are made, and what they tell is kept
abbrev pub invariant-loop-made : goal.invariant-loop-made
invariant-loop-made g l = record {
  within : l.made ≤ l.count;
  so_far : TellsMore l.initial.link l.link (ticks l.made) l.initial.told.items l.told.items;
}

-- the ticks that are left
abbrev pub decreases-loop-made : goal.decreases-loop-made
decreases-loop-made g l = l.count - l.made
