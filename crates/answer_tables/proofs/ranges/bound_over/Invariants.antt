use Rattle.std.proofs.Common.{◌+◌, ◌<◌, ◌≤◌, take}
use Rattle.net_units.specs.Limits.{most_delay}
use Rattle.link_steps.specs.Lists.{Each}
use Rattle.answer_tables.specs.Ranges.{IsLeastOver}
use Rattle.answer_tables.proofs.ranges.bound_over.Given as goal

-- the least of the bounds of the hops so far
abbrev pub invariant-loop-index : goal.invariant-loop-index
invariant-loop-index l = record {
  over : l.fn.ticks < l.least;
  most : l.least ≤ most_delay + 1;
  least : Each (IsLeastOver l.fn.ticks l.least) (take l.index l.route);
}
