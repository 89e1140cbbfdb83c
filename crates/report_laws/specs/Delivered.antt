-- Every packet of an accepted channel that has departed is reported, and once. At each hop it has one row. The report's *delivered*
-- is the number of the packets that have departed from the last hop, and its *least* and *worst* are the least and the greatest of
-- the delays of these packets, each from its arrival at the first hop to its arrival at the destination.
use Rattle.std.specs.Prelude.{◌≡◌, ℕ, suc, ◌≤◌, true, Option, Some, None, List, [], length, filter, reverse}
use Rattle.std.specs.List.{slice_get}
use Rattle.net_units.specs.Numbers.{channel_number}
use Rattle.link_steps.specs.Lists.{Each, Among}
use Rattle.link_steps.specs.Service.{Start}
use Rattle.setup_protocol.specs.Setup.{Accepts}
use Rattle.setup_protocol.specs.declared.request.Request.{Request}
use Rattle.channel_laws.specs.Channels.{is_of_channel}
use Rattle.channel_laws.specs.Departing.{gone_of}
use Rattle.call_script.specs.Parts.{PlanParts}
use Rattle.call_script.specs.Plans.{IsPlan}
use Rattle.call_script.specs.Tasks.{Network, network_of}
use Rattle.call_script.specs.declared.entries.RequestEntry.{RequestEntry}
use Rattle.run_record.specs.Rows.{rows_of}
use Rattle.run_record.specs.declared.done.Done.{Done}
use Rattle.interleave_core.specs.channels.Guarantee.{HasLeft}
use Rattle.run_engine.specs.channels.Paths.{HopAt, history_at, clock_at, starts_at, departs_at, delay_of}
use Rattle.run_engine.specs.runs.Runs.{IsRun}
use Rattle.trace_audit.specs.Above.{is_of}
use Rattle.channel_report.specs.Delays.{least_of, worst_of}
use Rattle.channel_report.specs.Verdicts.{verdict_in}
use Rattle.report_laws.specs.Bounds.{delays_told}

-- each packet that has left a hop of an accepted channel has one row there; that each row is of such a packet is said of the rows
abbrev pub EveryDepartureHasOneRow : Type 0
EveryDepartureHasOneRow = (plan : PlanParts) (run : List Done) (c : ℕ) (entry : RequestEntry) (levels : List ℕ) (delay i : ℕ) (at : HopAt (network_of plan) entry.request i) (start : Start) → IsPlan plan → IsRun (network_of plan) run → slice_get plan.requests c ≡ Some entry → verdict_in run entry ≡ Some (Accepts levels delay)
    → Among start (starts_at at run) → is_of_channel (channel_number entry.request.chan) start.packet ≡ true → departs_at at start ≤ clock_at at run
    → length (filter (is_of (channel_number entry.request.chan) start.packet.number (suc i)) (rows_of (reverse run))) ≡ 1

-- a delay of a packet that has left the last hop
pub record IsDelay (network : Network) (request : Request) (first : HopAt network request 0) (m : ℕ) (last : HopAt network request m) (run : List Done) (delay : ℕ) : Type 0 where
  pub k : ℕ
  pub start : Start
  pub left : HasLeft network request m last run k start
  pub is : delay ≡ delay_of first last run k start

-- the least of some delays, and the greatest, if there is one
abbrev pub IsLeast : Option ℕ → List ℕ → Type 0
IsLeast None delays = delays ≡ []
IsLeast (Some least) delays = Among least delays × Each (λ delay. least ≤ delay) delays

abbrev pub IsWorst : Option ℕ → List ℕ → Type 0
IsWorst None delays = delays ≡ []
IsWorst (Some worst) delays = Among worst delays × Each (λ delay. delay ≤ worst) delays

-- what the report tells of the delays of a channel's packets, whose last hop has this index
pub record TellsDelays (plan : PlanParts) (run : List Done) (entry : RequestEntry) (first : HopAt (network_of plan) entry.request 0) (m : ℕ) (last : HopAt (network_of plan) entry.request m) : Type 0 where
  -- delivered P: so many packets have departed from the last hop
  pub delivered : length (delays_told run entry) ≡ gone_of last.link.shape (channel_number entry.request.chan) (history_at last run)
  -- the delay of each of them is among those told, and each of those is a delay of one
  pub all : (k : ℕ) (start : Start) → HasLeft (network_of plan) entry.request m last run k start → Among (delay_of first last run k start) (delays_told run entry)
  pub each : Each (IsDelay (network_of plan) entry.request first m last run) (delays_told run entry)
  -- least A and worst B
  pub least : IsLeast (least_of (delays_told run entry)) (delays_told run entry)
  pub worst : IsWorst (worst_of (delays_told run entry)) (delays_told run entry)

abbrev pub ReportsShowEveryDelay : Type 0
ReportsShowEveryDelay = (plan : PlanParts) (run : List Done) (c : ℕ) (entry : RequestEntry) (levels : List ℕ) (delay : ℕ) (first : HopAt (network_of plan) entry.request 0) (m : ℕ) (last : HopAt (network_of plan) entry.request m) → IsPlan plan → IsRun (network_of plan) run → slice_get plan.requests c ≡ Some entry → verdict_in run entry ≡ Some (Accepts levels delay)
    → suc m ≡ length entry.request.route → TellsDelays plan run entry first m last
