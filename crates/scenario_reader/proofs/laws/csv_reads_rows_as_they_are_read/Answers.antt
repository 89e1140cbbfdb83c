use Rattle.scenario_reader.proofs.Auditing.CsvRows.{csv-reads-rows}
use Rattle.scenario_reader.proofs.laws.csv_reads_rows_as_they_are_read.Goals as goal

pub returns : goal.returns
returns c = csv-reads-rows
