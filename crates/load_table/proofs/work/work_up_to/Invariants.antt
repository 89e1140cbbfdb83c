use Rattle.std.proofs.Common.{◌≡◌, ◌*◌, ◌^◌, ◌≤◌, take}
use Rattle.net_units.specs.Numbers.{level_number}
use Rattle.traffic_contract.specs.Admission.{total, work_up_to}
use Rattle.load_table.specs.Loads.{rows_in}
use Rattle.load_table.proofs.work.work_up_to.Given as goal

-- the sum is that of the rows seen so far
abbrev pub invariant-loop-row : goal.invariant-loop-row
invariant-loop-row l = record {
  sum : l.sum ≡ total (work_up_to l.rate (level_number l.level) l.window) (rows_in (take l.row-index l.rows));
  small : l.sum ≤ l.row-index * 2 ^ 40;
}
