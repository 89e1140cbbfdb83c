use Rattle.std.proofs.Common.{◌≡◌, take}
use Rattle.std.specs.List.{flat_map}
use Rattle.channel_report.specs.Csv.{IsAtRow, text_on}
use Rattle.channel_report.specs.Table.{told_row}
use Rattle.channel_report.proofs.table.page.rows_page.Given as goal

-- the rows so far are on the page
abbrev pub invariant-loop-row : goal.invariant-loop-row
invariant-loop-row l = record {
  at_row : IsAtRow l.page;
  text : text_on l.page ≡ flat_map (told_row l.plan) (take l.row-index l.rows);
}
