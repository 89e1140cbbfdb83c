use Rattle.std.proofs.Common.{◌≡◌, take}
use Rattle.net_units.specs.Numbers.{level_number}
use Rattle.traffic_contract.specs.Admission.{total, work_up_to}
use Rattle.rcsp_admission.specs.Kept.{kept_rows}
use Rattle.rcsp_admission.proofs.rows.work_of.Given as goal

-- the sum is that of the rows seen so far
abbrev pub invariant-loop-row : goal.invariant-loop-row
invariant-loop-row l = l.sum ≡ total (work_up_to l.rate (level_number l.level) l.window) (kept_rows (take l.row-index l.rows))
