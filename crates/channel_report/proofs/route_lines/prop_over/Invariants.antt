use Rattle.std.proofs.Common.{◌≡◌, ◌+◌, ◌*◌, ◌^◌, ◌≤◌, length, drop}
use Rattle.channel_report.specs.Routes.{prop_over}
use Rattle.channel_report.proofs.route_lines.prop_over.Given as goal

-- the hops from the place on are in the sum
abbrev pub invariant-loop-place : goal.invariant-loop-place
invariant-loop-place l = record {
  inside : l.place ≤ length l.route;
  few : length l.route ≤ 16;
  small : l.prop + l.place * 2 ^ 32 ≤ 16 * 2 ^ 32;
  sum : l.prop ≡ prop_over (drop l.place l.route);
}

abbrev pub decreases-loop-place : goal.decreases-loop-place
decreases-loop-place l = l.place
