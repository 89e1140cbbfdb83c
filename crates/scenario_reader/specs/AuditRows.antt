-- A row of a table of packets is eight fields with a comma between two of them: CHANNEL,PACKET,HOP,LINK,SIZE,AT,ELIGIBLE,DEPARTED.
-- Its bytes are from 0x21 to 0x7E, and none of them is a quote. The channel is a request's name and the link is a link's; the hop is
-- a number below 256, the size one below 2^32, and each other number is below 2^40. So a row needs no rule on quotes: its fields
-- are those that any reader of CSV finds in it.
use Rattle.std.specs.Prelude.{ℕ, ◌-◌, ◌^◌, ◌<◌, Bool, nat_eq, not, ◌&&◌, if◌then◌else◌, Option, Some, None, List, [], ◌∷◌, codes, is_none, length, option_map}
use Rattle.std.specs.List.{list_all, slice_split}
use Rattle.net_units.specs.Text.{is_name}
use Rattle.net_units.specs.declared.numbers.ChanNo.{ChanNo}
use Rattle.link_steps.specs.declared.shape.LinkShape.{LinkShape}
use Rattle.call_script.specs.declared.entries.LinkEntry.{LinkEntry}
use Rattle.run_record.specs.declared.rows.HopRow.{HopRow}
use Rattle.scenario_reader.specs.AuditLines.{channel_in}
use Rattle.scenario_reader.specs.Causes.{Rule, first_cause}
use Rattle.scenario_reader.specs.Decimal.{value_of}
use Rattle.scenario_reader.specs.Drafts.{Said, link_named, shape_in}
use Rattle.scenario_reader.specs.Fields.{field_at, is_graphic}
use Rattle.scenario_reader.specs.Forms.{number_rule}
use Rattle.scenario_reader.specs.declared.audit.row.RowNumbers.{RowNumbers}

-- the header of a table
abbrev pub table_header : List ℕ
table_header = codes "channel,packet,hop,link,size,at,eligible,departed"

-- a byte that may stand in a row
abbrev pub is_plain : ℕ → Bool
is_plain b = is_graphic b && not (nat_eq b 34)

abbrev pub is_row_text : List ℕ → Bool
is_row_text line = not (nat_eq (length line) 0) && list_all is_plain line

-- the parts of a line between its commas
abbrev pub is_comma : ℕ → Bool
is_comma b = nat_eq b 44

abbrev pub row_fields : List ℕ → List (List ℕ)
row_fields line = slice_split is_comma line

-- its numbers, each within what it may be
abbrev pub numbers_rule : List (List ℕ) → Rule
numbers_rule fields = first_cause (
    number_rule 0 (2 ^ 40 - 1) (field_at fields 1)
    ∷ number_rule 0 255 (field_at fields 2)
    ∷ number_rule 0 (2 ^ 32 - 1) (field_at fields 4)
    ∷ number_rule 0 (2 ^ 40 - 1) (field_at fields 5)
    ∷ number_rule 0 (2 ^ 40 - 1) (field_at fields 6)
    ∷ number_rule 0 (2 ^ 40 - 1) (field_at fields 7)
    ∷ [])

abbrev pub numbers_of : List (List ℕ) → RowNumbers
numbers_of fields = record {
  number = value_of (field_at fields 1);
  hop = value_of (field_at fields 2);
  size = value_of (field_at fields 4);
  at = value_of (field_at fields 5);
  eligible = value_of (field_at fields 6);
  departed = value_of (field_at fields 7);
}

-- those below 2 ^ 40 are so
pub record AreSmallNumbers (numbers : RowNumbers) : Type 0 where
  pub number : numbers.number < 2 ^ 40
  pub at : numbers.at < 2 ^ 40
  pub eligible : numbers.eligible < 2 ^ 40
  pub departed : numbers.departed < 2 ^ 40

abbrev pub numbers_told : List (List ℕ) → Option RowNumbers
numbers_told fields = if is_none (numbers_rule fields) then Some (numbers_of fields) else None

-- the link whose name a field is
abbrev pub link_in : List LinkEntry → List ℕ → Option LinkEntry
link_in links field = if is_name field then link_named links field else None

-- the row of these parts, where each of them is there
abbrev pub row_with : Option ChanNo → Option LinkShape → Option RowNumbers → Option HopRow
row_with (Some chan) (Some shape) (Some numbers) = Some (record {
  chan = chan;
  number = numbers.number;
  hop = numbers.hop;
  link = shape.link;
  size = numbers.size;
  at = numbers.at;
  eligible = numbers.eligible;
  departed = numbers.departed;
})
row_with _ _ _ = None

abbrev pub row_of : Said → List (List ℕ) → Option HopRow
row_of said fields =
    if nat_eq (length fields) 8 then row_with (channel_in said.requests (field_at fields 0)) (option_map shape_in (link_in said.links (field_at fields 3))) (numbers_told fields)
    else None

-- the row that a line is, if it is one
abbrev pub row_told : Said → List ℕ → Option HopRow
row_told said line = if is_row_text line then row_of said (row_fields line) else None
