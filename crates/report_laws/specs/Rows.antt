-- What a row of a run says of a packet: that it has left a hop of its channel's route, the hop's place in the route and its link,
-- when the packet arrived there, when it was eligible, and when it departed. These are the packets and the ticks that the whole
-- guarantee speaks of.
use Rattle.std.specs.Prelude.{◌≡◌, ℕ, suc, ◌≤◌, true, Some, List, reverse}
use Rattle.std.specs.List.{slice_get}
use Rattle.net_units.specs.Numbers.{link_number, channel_number}
use Rattle.link_steps.specs.Service.{Start}
use Rattle.link_steps.specs.Lists.{Among}
use Rattle.setup_protocol.specs.Setup.{Accepts}
use Rattle.setup_protocol.specs.declared.request.Request.{Request}
use Rattle.channel_laws.specs.Channels.{is_of_channel}
use Rattle.call_script.specs.Parts.{PlanParts}
use Rattle.call_script.specs.Plans.{IsPlan}
use Rattle.call_script.specs.Tasks.{Network, network_of}
use Rattle.call_script.specs.declared.entries.RequestEntry.{RequestEntry}
use Rattle.run_record.specs.Rows.{rows_of}
use Rattle.run_record.specs.declared.done.Done.{Done}
use Rattle.run_record.specs.declared.rows.HopRow.{HopRow}
use Rattle.run_engine.specs.channels.Paths.{HopAt, clock_at, starts_at, departs_at}
use Rattle.run_engine.specs.runs.Runs.{IsRun}
use Rattle.channel_report.specs.Verdicts.{verdict_in}

-- the row is of the packet with this start, which has left a hop of the request's route
pub record TellsDeparture (network : Network) (run : List Done) (request : Request) (row : HopRow) : Type 0 where
  pub index : ℕ
  pub at : HopAt network request index
  pub hop : row.hop ≡ suc index
  pub link : link_number row.link ≡ link_number at.hop.link
  pub start : Start
  pub among : Among start (starts_at at run)
  pub own : is_of_channel (channel_number request.chan) start.packet ≡ true
  pub left : departs_at at start ≤ clock_at at run
  pub number : row.number ≡ start.packet.number
  pub numbered : 1 ≤ start.packet.number
  pub size : row.size ≡ start.packet.size
  pub arrived : row.at ≡ start.packet.at
  pub eligible : row.eligible ≡ start.packet.eligible
  pub departed : row.departed ≡ departs_at at start

-- each row of an accepted channel, in each run of a plan
abbrev pub RowsShowDepartures : Type 0
RowsShowDepartures = (plan : PlanParts) (run : List Done) (c : ℕ) (entry : RequestEntry) (levels : List ℕ) (delay : ℕ) (row : HopRow) → IsPlan plan → IsRun (network_of plan) run
    → slice_get plan.requests c ≡ Some entry → verdict_in run entry ≡ Some (Accepts levels delay) → Among row (rows_of (reverse run)) → channel_number row.chan ≡ channel_number entry.request.chan
    → TellsDeparture (network_of plan) run entry.request row
