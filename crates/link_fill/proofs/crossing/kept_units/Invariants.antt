use Rattle.std.proofs.Common.{◌≡◌, ◌*◌, ◌^◌, ◌≤◌, take}
use Rattle.traffic_contract.specs.Admission.{total}
use Rattle.link_fill.specs.Fills.{kept_by}
use Rattle.link_fill.proofs.crossing.kept_units.Given as goal

-- the sum is that of the requests seen so far
abbrev pub invariant-loop-crossing : goal.invariant-loop-crossing
invariant-loop-crossing l = record {
  sum : l.sum ≡ total kept_by (take l.crossing-index l.crossings);
  small : l.sum ≤ l.crossing-index * 2 ^ 52;
}
