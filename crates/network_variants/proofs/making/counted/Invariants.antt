use Rattle.std.proofs.Common.{◌≤◌}
use Rattle.network_variants.specs.Variants.{AreCounted}
use Rattle.network_variants.proofs.making.counted.Given as goal

-- the changes so far, the last first
abbrev pub invariant-loop : goal.invariant-loop
invariant-loop l = record {
  counted : AreCounted l.changes.items l.count;
  few : l.count ≤ 100000;
}
