use Rattle.std.proofs.Common.{◌≡◌, ◌≤◌, take, length}
use Rattle.scenario_reader.specs.line.Request.{route_values}
use Rattle.scenario_reader.proofs.line.request.text.route_values.Given as goal

-- the values are those of the links so far
abbrev pub invariant-loop-index : goal.invariant-loop-index
invariant-loop-index l = record {
  same : l.values ≡ route_values l.links (take l.index l.route);
  few : length l.values ≤ l.index;
}
