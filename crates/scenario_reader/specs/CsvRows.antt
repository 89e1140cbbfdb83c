-- The lines of a table that may be rows have no quote, no space and no carriage return. So a reader of CSV finds in each of them, up
-- to its line feed and whatever stands after that, exactly the fields between its commas.
use Rattle.std.specs.Prelude.{◌≡◌, ℕ, true, Some, List, [], ◌∷◌, ◌++◌}
use Rattle.csv.specs.Machine.{next_record}
use Rattle.csv.specs.Reading.{default_config}
use Rattle.csv.specs.declared.parser.State.TheVariants.{StartRecord}
use Rattle.scenario_reader.specs.AuditRows.{is_row_text, row_fields}

abbrev pub CsvReadsRows : Type 0
CsvReadsRows = (line rest : List ℕ) → is_row_text line ≡ true → next_record default_config StartRecord [] [] (line ++ 10 ∷ rest) ≡ Some (row_fields line, StartRecord, rest)
