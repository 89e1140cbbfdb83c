use Rattle.std.proofs.Common.{◌≡◌, take, length}
use Rattle.scenario_reader.specs.line.Link.{bound_values}
use Rattle.scenario_reader.proofs.line.link.bound_values.Given as goal

-- the values are those of the bounds so far
abbrev pub invariant-loop-index : goal.invariant-loop-index
invariant-loop-index l = record {
  same : l.values ≡ bound_values (take l.index l.bounds);
  count : length l.values ≡ l.index;
}
