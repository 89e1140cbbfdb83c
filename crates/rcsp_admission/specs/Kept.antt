-- A kept row is seen as its key, its contract and the number of its level.
use Rattle.std.specs.Prelude.{List, map}
use Rattle.net_units.specs.Numbers.{level_number}
use Rattle.traffic_contract.specs.Admission.{Admitted}
use Rattle.rcsp_admission.specs.Sums.{Held, row_held, admitted_rows}
use Rattle.rcsp_admission.specs.declared.rows.KeptRow.{KeptRow}

abbrev pub held_of : KeptRow → Held
held_of row = row_held row.key row.contract (level_number row.level)

-- kept rows, as the admission test sums them
abbrev pub kept_rows : List KeptRow → List Admitted
kept_rows rows = admitted_rows (map held_of rows)
