-- Rows whose numbers are small enough that sums of a few of them are numbers of the machine.
use Rattle.std.specs.Prelude.{◌<◌, ◌^◌, List}
use Rattle.link_steps.specs.Lists.{Each}
use Rattle.run_record.specs.declared.rows.HopRow.{HopRow}

pub record IsSmall (row : HopRow) : Type 0 where
  pub number : row.number < 2 ^ 40
  pub at : row.at < 2 ^ 40
  pub eligible : row.eligible < 2 ^ 40
  pub departed : row.departed < 2 ^ 40

abbrev pub AreSmall : List HopRow → Type 0
AreSmall rows = Each IsSmall rows
