-- What is kept of the packets of a run's channels while they leave: for each request the links of its first and last hop, the last
-- propagation, the arrivals at the first hop by the packets' numbers, and the delays so far. Rows are listed from the last one to
-- the first.
use Rattle.std.specs.Prelude.{◌≡◌, ℕ, Some, List, length}
use Rattle.std.specs.List.{slice_get}
use Rattle.net_units.specs.Numbers.{link_number}
use Rattle.call_script.specs.declared.entries.RequestEntry.{RequestEntry}
use Rattle.run_record.specs.declared.rows.HopRow.{HopRow}
use Rattle.setup_protocol.specs.declared.request.Request.{Request}
use Rattle.channel_report.specs.DelayTallies.{delay_tally_of}
use Rattle.channel_report.specs.Delays.{last_link, last_prop}
use Rattle.channel_report.specs.Pairing.{arrivals_of, paired_of}
use Rattle.channel_report.specs.Sources.{first_link}
use Rattle.channel_report.specs.declared.flow.Flow.{Flow}

-- of the channel of this number, for this request
pub record KeepsFlow (c : ℕ) (request : Request) (rows : List HopRow) (flow : Flow) : Type 0 where
  pub first : link_number flow.first ≡ first_link request.route
  pub last : link_number flow.last ≡ last_link request.route
  pub prop : flow.prop ≡ last_prop request.route
  pub arrivals : flow.arrivals.items ≡ arrivals_of c request rows
  pub delays : flow.delays ≡ delay_tally_of (paired_of c request rows)

-- of each request's channel
pub record AreFlows (requests : List RequestEntry) (rows : List HopRow) (flows : List Flow) : Type 0 where
  pub all : length flows ≡ length requests
  pub tells : (n : ℕ) (entry : RequestEntry) (flow : Flow) → slice_get requests n ≡ Some entry → slice_get flows n ≡ Some flow → KeepsFlow n entry.request rows flow
