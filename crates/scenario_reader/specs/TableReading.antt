-- How `csv` reads the lines of a table that are in hand in memory. A reader stands at bytes where it is between two records, takes
-- no record for a header, and those bytes are what it has left. (At its start it leaves out a byte order mark, with which no row
-- begins.) Where they begin with a row's line, the record that it reads next has the fields of that row, and the reader then stands
-- at the bytes after that line.
use Rattle.std.specs.Prelude.{◌≡◌, ℕ, ◌⊎◌, List, Option, Some, ◌∷◌, ◌++◌, Vec}
use Rattle.std.specs.Global.{Global}
use Rattle.std.specs.Io.Cursor.{cursor_remaining}
use Rattle.std.specs.declared.io.impls.Cursor.{Cursor}
use Rattle.byte_ends.specs.WholeLines.{feed}
use Rattle.csv.specs.Reading.{Ready, default_config, reader_config, reader_state, reader_trim, source_of, strip_bom}
use Rattle.csv.specs.declared.parser.State.TheVariants.{StartRecord}
use Rattle.csv.specs.declared.reader.Reader.{Reader}
use Rattle.csv.specs.declared.reader.Trim.TheVariants as trim
use Rattle.scenario_reader.specs.AuditRows.{row_fields}

-- the bytes that a cursor has left
abbrev pub held_bytes : Cursor (Vec ℕ Global) → Option (List ℕ)
held_bytes held = cursor_remaining (λ bytes. Some bytes.items) held

pub record StandsAt (reader : Reader (Cursor (Vec ℕ Global))) (bytes : List ℕ) : Type 0 where
  pub plain : reader_trim reader ≡ trim.None
  pub config : reader_config reader ≡ default_config
  pub ready : Ready reader
  pub between : reader_state reader ≡ StartRecord
  pub left : (source_of held_bytes reader ≡ Some bytes) ⊎ (source_of held_bytes reader ≡ Some (strip_bom bytes))

-- bytes begin with this line and its line feed
pub record BeginsWithLine (bytes line : List ℕ) : Type 0 where
  pub rest : List ℕ
  pub is : bytes ≡ line ++ feed ∷ rest

-- the line at which the reader stood was read, and its record has these fields
abbrev pub ReadsLine : List ℕ → Reader (Cursor (Vec ℕ Global)) → Reader (Cursor (Vec ℕ Global)) → List (List ℕ) → Type 0
ReadsLine line old new fields = (rest : List ℕ) → StandsAt old (line ++ feed ∷ rest) → (fields ≡ row_fields line) × StandsAt new rest
