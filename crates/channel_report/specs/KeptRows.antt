-- The rows of a run that are kept for a table while the run goes on, whose entries are listed in the order of time. Where there is to be
-- no table, no rows are kept.
use Rattle.std.specs.Prelude.{◌≡◌, Bool, true, List, ◌++◌, map}
use Rattle.run_record.specs.Rows.{departures_in}
use Rattle.run_record.specs.ToldHops.{with_hop}
use Rattle.run_record.specs.declared.done.Done.{Done}
use Rattle.run_record.specs.declared.rows.HopRow.{HopRow}

-- they are the rows that these entries tell, with the hops by whatever offers follow
abbrev pub AreKept : List Done → List HopRow → Type 0
AreKept entries rows = (later : List Done) → map (with_hop (entries ++ later)) rows ≡ departures_in (entries ++ later) entries

-- where there is to be a table
abbrev pub AreKeptIf : Bool → List Done → List HopRow → Type 0
AreKeptIf packets entries rows = packets ≡ true → AreKept entries rows
