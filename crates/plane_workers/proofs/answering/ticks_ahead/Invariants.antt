use Rattle.std.proofs.Common.{◌≡◌, ◌++◌, ◌-◌, ◌≤◌, take}
use Rattle.tick_plane.specs.AskedRuns.{ticks}
use Rattle.plane_workers.proofs.answering.ticks_ahead.Given as goal

-- all of these so far are ticks
abbrev pub invariant-loop-place : goal.invariant-loop-place
invariant-loop-place l = record {
  few : l.place - l.made ≤ l.most;
  ticks : take l.place l.asks ≡ take l.made l.asks ++ ticks (l.place - l.made);
}
