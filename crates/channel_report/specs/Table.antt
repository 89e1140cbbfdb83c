-- The table of a run's packets: a header, and a line for each departure, in the order of the channels' requests, the packets and the
-- hops. Fields are separated by commas, and each line ends with a line feed.
use Rattle.std.specs.Prelude.{ℕ, Option, Some, None, List, [], ◌∷◌, ◌++◌, codes}
use Rattle.std.specs.List.{flat_map, join_with_byte, slice_get}
use Rattle.std.specs.Fmt.{decimal}
use Rattle.net_units.specs.Numbers.{channel_number, link_number}
use Rattle.call_script.specs.Parts.{PlanParts}
use Rattle.call_script.specs.declared.entries.LinkEntry.{LinkEntry}
use Rattle.call_script.specs.declared.entries.RequestEntry.{RequestEntry}
use Rattle.run_record.specs.declared.rows.HopRow.{HopRow}

-- the line of these fields
abbrev pub row_line : List (List ℕ) → List ℕ
row_line fields = join_with_byte 44 fields ++ 10 ∷ []

abbrev pub header : List ℕ
header = row_line (codes "channel" ∷ codes "packet" ∷ codes "hop" ∷ codes "link" ∷ codes "size" ∷ codes "at" ∷ codes "eligible" ∷ codes "departed" ∷ [])

-- the name of a request and of a link, by their numbers
abbrev pub name_of_request : Option RequestEntry → List ℕ
name_of_request None = []
name_of_request (Some entry) = entry.name

abbrev pub name_of_link : Option LinkEntry → List ℕ
name_of_link None = []
name_of_link (Some entry) = entry.name

-- NAME,NUMBER,HOP,LINK,SIZE,AT,ELIGIBLE,DEPARTED, of a channel and a link of these names
abbrev pub fields_of_row : List ℕ → List ℕ → HopRow → List (List ℕ)
fields_of_row channel link row =
    channel
    ∷ decimal row.number
    ∷ decimal row.hop
    ∷ link
    ∷ decimal row.size
    ∷ decimal row.at
    ∷ decimal row.eligible
    ∷ decimal row.departed
    ∷ []

abbrev pub told_row : PlanParts → HopRow → List ℕ
told_row parts row = row_line (fields_of_row (name_of_request (slice_get parts.requests (channel_number row.chan))) (name_of_link (slice_get parts.links (link_number row.link))) row)

abbrev pub table_of : PlanParts → List HopRow → List ℕ
table_of parts rows = header ++ flat_map (told_row parts) rows
