-- The report of a run of a plan: a line for each request with what it has come to, a line for each route that was found, a line for
-- each move that was made, a line for each channel that was established, a line for each link, the number of steps, and, where it is
-- asked for, the table of the packets. It is a function of the plan and of the run's entries, which are listed in the order of time.
use Rattle.std.specs.Prelude.{ℕ, Bool, true, false, List, [], ◌∷◌, ◌++◌, length, reverse, codes}
use Rattle.std.specs.List.{flat_map}
use Rattle.std.specs.Fmt.{decimal}
use Rattle.call_script.specs.Parts.{PlanParts}
use Rattle.run_record.specs.Rows.{rows_of}
use Rattle.run_record.specs.declared.done.Done.{Done}
use Rattle.channel_report.specs.Channels.{channel_lines}
use Rattle.channel_report.specs.Delays.{departures_of}
use Rattle.text_writer.specs.Lines.{whole_line}
use Rattle.channel_report.specs.Links.{link_line}
use Rattle.channel_report.specs.Moves.{move_lines}
use Rattle.channel_report.specs.Routes.{route_lines}
use Rattle.channel_report.specs.Table.{table_of}
use Rattle.channel_report.specs.Verdicts.{request_line}

-- end steps N
abbrev pub end_line : ℕ → List ℕ
end_line steps = whole_line (codes "end" ∷ codes "steps" ∷ decimal steps ∷ [])

-- the lines of the requests
abbrev pub request_lines : PlanParts → List Done → List ℕ
request_lines parts run = flat_map (request_line run) parts.requests

-- those of the links
abbrev pub link_lines : PlanParts → List Done → List ℕ
link_lines parts run = flat_map (link_line parts.version run) parts.links

-- the table, where it is asked for
abbrev pub table_if : Bool → PlanParts → List Done → List ℕ
table_if true parts entries = table_of parts (rows_of entries)
table_if false parts entries = []

-- the report
abbrev pub report_of : PlanParts → List Done → Bool → List ℕ
report_of parts entries packets =
    request_lines parts (reverse entries)
    ++ (route_lines parts.links parts.requests
    ++ (move_lines parts (reverse entries)
    ++ (channel_lines parts (departures_of entries) (reverse entries)
    ++ (link_lines parts (reverse entries)
    ++ (end_line (length entries)
    ++ table_if packets parts entries)))))
