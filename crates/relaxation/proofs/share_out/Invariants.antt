use Rattle.std.proofs.Common.{◌≡◌, ◌-◌, ◌≤◌, length, map, take, drop}
use Rattle.net_units.specs.Numbers.{level_number}
use Rattle.relaxation.specs.Allotment.{allotment, limit_before}
use Rattle.relaxation.specs.Laws.{HaveBounds}
use Rattle.relaxation.proofs.share_out.Given as goal

-- the hops after the place have their levels, and so much is left for those before them
abbrev pub invariant-loop-place : goal.invariant-loop-place
invariant-loop-place l = record {
  in_route : l.place ≤ length l.it.levels;
  left : l.left ≡ (allotment l.fn.jitter l.slack l.place (drop l.place l.it.route) (drop l.place l.it.levels)).slack;
  levels : map level_number (take (length l.it.levels - l.place) (drop l.place l.levels)) ≡ (allotment l.fn.jitter l.slack l.place (drop l.place l.it.route) (drop l.place l.it.levels)).levels;
  limit : l.limit ≡ limit_before l.fn.jitter (drop l.place l.it.levels);
  less : l.left ≤ l.slack;
  size : length l.levels ≡ 16;
  bounds : HaveBounds (drop l.place l.it.route);
}

abbrev pub decreases-loop-place : goal.decreases-loop-place
decreases-loop-place l = l.place
