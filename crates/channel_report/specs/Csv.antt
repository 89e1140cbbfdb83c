-- The table as the kit's `csv` writes it, a page of rows at a time: with a comma between two fields and a line feed after a record.
-- A field of which no byte is a comma, a quote, a carriage return or a line feed is written as it is.
use Rattle.std.specs.Prelude.{◌≡◌, ℕ, true, false, List, ◌++◌, Vec}
use Rattle.std.specs.Global.{Global}
use Rattle.std.specs.List.{list_any}
use Rattle.csv.specs.Writing.{default_writer, fields_written, has_written, needs_byte, with_flexible, writer_pending, writer_setup, writer_under}
use Rattle.csv.specs.declared.writer.Writer.{Writer}
use Rattle.csv.specs.declared.writer.WriterBuilder.{WriterBuilder}

-- how the table is written: by the defaults of `csv`, with records of any length
abbrev pub table_setup : WriterBuilder
table_setup = with_flexible default_writer true

-- no byte of the field calls for quotes
abbrev pub IsPlain : List ℕ → Type 0
IsPlain field = list_any (needs_byte table_setup) field ≡ false

-- the text of a page so far
abbrev pub text_on : Writer (Vec ℕ Global) → List ℕ
text_on page = (writer_under page).items ++ writer_pending page

-- the next field begins a row
pub record IsAtRow (page : Writer (Vec ℕ Global)) : Type 0 where
  pub setup : writer_setup page ≡ table_setup
  pub no_field : fields_written page ≡ 0
  pub no_byte : has_written page ≡ false
