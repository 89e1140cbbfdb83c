use Rattle.std.proofs.Common.{◌≡◌, ◌*◌, ◌^◌, ◌≤◌, take}
use Rattle.traffic_contract.specs.Admission.{total}
use Rattle.load_table.specs.Loads.{part_in}
use Rattle.load_table.proofs.share.long_run.Given as goal

-- the sum is that of the rows seen so far
abbrev pub invariant-loop-row : goal.invariant-loop-row
invariant-loop-row l = record {
  sum : l.sum ≡ total (part_in l.rate) (take l.row-index l.rows);
  small : l.sum ≤ l.row-index * 2 ^ 50;
}
