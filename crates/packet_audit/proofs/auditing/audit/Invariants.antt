use Rattle.std.proofs.Common.{◌≡◌, ◌+◌, ◌++◌, drop, reverse, take}
use Rattle.packet_audit.specs.Promises.{found_from, found_in}
use Rattle.packet_audit.specs.Trails.{TrailsStand}
use Rattle.packet_audit.proofs.auditing.audit.Given as goal

-- what is found so far, and what is found of the rows that are left, is all
abbrev pub invariant-loop-row : goal.invariant-loop-row
invariant-loop-row l = record {
  number : l.number ≡ l.row-index;
  found : l.found.items ++ found_from l.promises (l.row-index + 1) (reverse (take l.row-index l.rows)) (drop l.row-index l.rows) ≡ found_in l.promises l.rows;
  trails : TrailsStand l.promises l.trails.items (reverse (take l.row-index l.rows));
}
