use Rattle.std.proofs.Common.{◌≤◌, take}
use Rattle.net_units.specs.Numbers.{level_number}
use Rattle.traffic_contract.specs.Admission.{total, work_up_to}
use Rattle.rcsp_admission.specs.Kept.{kept_rows}
use Rattle.rcsp_admission.specs.Lines.{one_tick, IsBelow}
use Rattle.rcsp_admission.proofs.lines.line_of_rows.Given as goal

-- the line is below the work of the rows seen so far
abbrev pub invariant-loop-row : goal.invariant-loop-row
invariant-loop-row l = (l.slope ≤ one_tick) × IsBelow l.flat l.slope (λ w. total (work_up_to l.rate (level_number l.level) w) (kept_rows (take l.row-index l.rows))) l.from
