-- What the table of a run tells of the delays of a channel's packets: in every run those that its report tells. The rows of a
-- packet stand together, in the order of its hops; so where a packet has departed from the last hop, the nearest row of a first
-- hop, at this row or before it, is its own. A packet is delivered when it has departed from the last hop. Its delay is the ticks
-- from its arrival at the first hop to its arrival at the destination, which is its last departure plus the last link's
-- propagation. Rows are listed here from the last one to the first.
use Rattle.std.specs.Prelude.{◌≡◌, ℕ, ◌+◌, ◌-◌, Bool, nat_eq, ◌&&◌, if◌then◌else◌, Option, Some, None, List, [], ◌∷◌, ◌++◌, length, reverse}
use Rattle.std.specs.List.{slice_get}
use Rattle.net_units.specs.Numbers.{channel_number}
use Rattle.setup_protocol.specs.declared.request.Request.{Request}
use Rattle.call_script.specs.Parts.{PlanParts}
use Rattle.call_script.specs.Plans.{IsPlan}
use Rattle.call_script.specs.Tasks.{network_of}
use Rattle.call_script.specs.declared.entries.RequestEntry.{RequestEntry}
use Rattle.run_record.specs.Rows.{rows_of}
use Rattle.run_record.specs.declared.done.Done.{Done}
use Rattle.run_record.specs.declared.rows.HopRow.{HopRow}
use Rattle.run_engine.specs.runs.Runs.{IsRun}
use Rattle.channel_report.specs.Delays.{last_prop}
use Rattle.report_laws.specs.Bounds.{delays_told}

-- the nearest row of a first hop
abbrev pub nearer : HopRow → Option HopRow → Option HopRow
nearer row found = if nat_eq row.hop 1 then Some row else found

unfoldable pub first_in : List HopRow → Option HopRow
first_in [] = None
first_in (row ∷ before) = nearer row (first_in before)

-- whether two rows are of one packet
abbrev pub is_same_packet : HopRow → HopRow → Bool
is_same_packet row other = nat_eq (channel_number row.chan) (channel_number other.chan) && nat_eq row.number other.number

-- whether a row is of the channel, at the last hop of its route
abbrev pub is_last : Request → HopRow → Bool
is_last request row = nat_eq (channel_number row.chan) (channel_number request.chan) && nat_eq row.hop (length request.route)

-- the delay of the packet of a row, after this row of a first hop
abbrev pub delay_from : ℕ → HopRow → Option HopRow → List ℕ
delay_from prop row None = []
delay_from prop row (Some first) = if is_same_packet row first then (row.departed + prop - first.at) ∷ [] else []

abbrev pub delay_by : Request → Option HopRow → HopRow → List ℕ
delay_by request first row = if is_last request row then delay_from (last_prop request.route) row first else []

-- the delays of the channel's packets
unfoldable pub row_delays_of : Request → List HopRow → List ℕ
row_delays_of request [] = []
row_delays_of request (row ∷ before) = delay_by request (first_in (row ∷ before)) row ++ row_delays_of request before

-- those that the rows tell, listed in their order
abbrev pub row_delays_in : Request → List HopRow → List ℕ
row_delays_in request rows = row_delays_of request (reverse rows)

-- they are those that the report of a run tells of the channel of each request
abbrev pub ReportsTellTheDelaysOfRows : Type 0
ReportsTellTheDelaysOfRows = (plan : PlanParts) (run : List Done) (c : ℕ) (entry : RequestEntry) → IsPlan plan → IsRun (network_of plan) run → slice_get plan.requests c ≡ Some entry
    → delays_told run entry ≡ row_delays_in entry.request (rows_of (reverse run))
