use Rattle.std.proofs.Common.{◌≡◌, ◌≤◌, drop, length, map, take}
use Rattle.net_units.specs.Allotted.{levels_of}
use Rattle.hop_reservation.specs.Offers.{AreLevels}
use Rattle.scenario_reader.specs.AuditLines.{are_level_fields}
use Rattle.scenario_reader.specs.Decimal.{value_of}
use Rattle.scenario_reader.proofs.audit.accepting.levels_told.Given as goal

-- the fields so far are levels of their hops, which were kept, and what is left decides
abbrev pub invariant-loop-index : goal.invariant-loop-index
invariant-loop-index l = record {
  rest : are_level_fields l.route (drop 5 l.fields) ≡ are_level_fields (drop l.index l.route) (drop l.index (drop 5 l.fields));
  within : l.index ≤ length (drop 5 l.fields);
  told : levels_of l.levels ≡ map value_of (take l.index (drop 5 l.fields));
  count : length (levels_of l.levels) ≡ l.index;
  are : AreLevels l.route (levels_of l.levels);
}
