use Rattle.std.proofs.Common.{take}
use Rattle.std.specs.List.{All}
use Rattle.load_table.specs.Loads.{rows_in, HasContract}
use Rattle.load_table.proofs.window.see_contracts.Given as goal

-- the rows seen so far have one
abbrev pub invariant-loop-row : goal.invariant-loop-row
invariant-loop-row l = All HasContract (rows_in (take l.row-index l.rows))
