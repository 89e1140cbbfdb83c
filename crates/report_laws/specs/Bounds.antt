-- What the report of a run says of a channel is within what its accept line promises. Where the channel's line says that its source
-- keeps its contract, the worst delay is at most the delay of the accept line, which is within the delay that was asked for. Under
-- delay-jitter control the worst and the least delay differ by less than the bound of the last hop, which is within the jitter that
-- was asked for. Runs are listed newest first here, and the entries of a report in the order of time.
use Rattle.std.specs.Prelude.{◌≡◌, ℕ, ◌+◌, ◌<◌, ◌≤◌, true, Some, List, reverse}
use Rattle.std.specs.List.{slice_get}
use Rattle.traffic_contract.specs.Keeping.{keeps}
use Rattle.net_units.specs.declared.Kind.TheVariants.{Jitter}
use Rattle.relaxation.specs.Allotment.{bound_at_end}
use Rattle.setup_protocol.specs.Laws.{KeepsRequest}
use Rattle.setup_protocol.specs.Requests.{kind_of}
use Rattle.setup_protocol.specs.Setup.{Accepts}
use Rattle.call_script.specs.Parts.{PlanParts}
use Rattle.call_script.specs.Plans.{IsPlan}
use Rattle.call_script.specs.Tasks.{network_of}
use Rattle.call_script.specs.declared.entries.RequestEntry.{RequestEntry}
use Rattle.run_record.specs.declared.done.Done.{Done}
use Rattle.run_engine.specs.runs.Runs.{IsRun}
use Rattle.channel_report.specs.Channels.{offered_for}
use Rattle.channel_report.specs.Delays.{delays_in, departures_of, least_of, worst_of}
use Rattle.channel_report.specs.Verdicts.{verdict_in}

-- the channel's line says that its source keeps its contract
abbrev pub SaysKeeps : List Done → RequestEntry → Type 0
SaysKeeps run entry = keeps entry.request.contract (offered_for run entry) ≡ true

-- the delays whose number, least and worst it tells
abbrev pub delays_told : List Done → RequestEntry → List ℕ
delays_told run entry = delays_in entry.request (departures_of (reverse run))

-- what the report tells of a channel that was accepted with these levels and this delay
pub record TellsWithinBounds (run : List Done) (entry : RequestEntry) (levels : List ℕ) (delay : ℕ) : Type 0 where
  -- its delay, and the bound of its last hop, are within what was asked for
  pub keeps : KeepsRequest entry.request levels delay
  -- worst W is at most delay SUM
  pub worst : (most : ℕ) → worst_of (delays_told run entry) ≡ Some most → most ≤ delay
  -- worst W is less than least L and the bound of the last hop
  pub spread : kind_of entry.request.control ≡ Jitter → (least most : ℕ) → least_of (delays_told run entry) ≡ Some least → worst_of (delays_told run entry) ≡ Some most
      → most < least + bound_at_end entry.request.route levels

-- in the report of each run of a plan
abbrev pub ReportsKeepTheirBounds : Type 0
ReportsKeepTheirBounds = (plan : PlanParts) (run : List Done) (c : ℕ) (entry : RequestEntry) (levels : List ℕ) (delay : ℕ) → IsPlan plan → IsRun (network_of plan) run
    → slice_get plan.requests c ≡ Some entry → verdict_in run entry ≡ Some (Accepts levels delay) → SaysKeeps run entry → TellsWithinBounds run entry levels delay
