use Rattle.std.proofs.Common.{◌≡◌, take}
use Rattle.net_units.specs.Allotted.{levels_of}
use Rattle.scenario_reader.proofs.audit.accepting.offers_of.Given as goal

-- the hops so far have offered their levels
abbrev pub invariant-loop-index : goal.invariant-loop-index
invariant-loop-index l = record {
  route : l.it.route ≡ l.route;
  levels : l.it.levels ≡ take l.index (levels_of l.levels);
}
