-- What a run tells of the channel of each request, in the numbers of its report (channel_report): the delay that was promised, the packets
-- that its source has sent, whether these keep its contract, and from which packet on they don't, the packets that have arrived, the greatest
-- of their delays, and the sends that were refused. As long as the source keeps its contract, no packet is later than was promised.
use Rattle.std.specs.Prelude.{◌≡◌, ◌≤◌, ℕ, true, Option, Some, None, List, length}
use Rattle.std.specs.List.{slice_get}
use Rattle.traffic_contract.specs.Keeping.{keeps}
use Rattle.setup_protocol.specs.Setup.{Outcome, Accepts}
use Rattle.call_script.specs.Parts.{PlanParts}
use Rattle.call_script.specs.Tasks.{network_of}
use Rattle.call_script.specs.declared.entries.RequestEntry.{RequestEntry}
use Rattle.call_script.specs.declared.schedule.Schedule.{Schedule}
use Rattle.run_engine.specs.schedules.Schedules.{IsPlayed}
use Rattle.run_record.specs.declared.done.Done.{Done}
use Rattle.channel_report.specs.Channels.{offered_for, sends_refused}
use Rattle.channel_report.specs.Delays.{worst_of}
use Rattle.channel_report.specs.Verdicts.{verdict_in}
use Rattle.report_laws.specs.Bounds.{delays_told}
use Rattle.packet_answers.specs.SourceTallies.{BreaksFrom}
use Rattle.packet_answers.specs.declared.rows.ChannelRow.{ChannelRow}

-- the delay that an outcome promises
abbrev pub promised_in : Option Outcome → Option ℕ
promised_in (Some (Accepts levels delay)) = Some delay
promised_in _ = None

-- what the run tells of a request's channel
pub record TellsChannel (run : List Done) (entry : RequestEntry) (row : ChannelRow) : Type 0 where
  pub promises : row.promised ≡ promised_in (verdict_in run entry)
  pub sends : row.sent ≡ length (offered_for run entry)
  pub kept : row.keeps ≡ keeps entry.request.contract (offered_for run entry)
  pub breaks : BreaksFrom entry.request.contract (offered_for run entry) row.breaks_from
  pub arrives : row.arrived ≡ length (delays_told run entry)
  pub most : row.worst ≡ worst_of (delays_told run entry)
  pub refuses : row.refused ≡ sends_refused run entry
  pub within : row.keeps ≡ true → (promised worst : ℕ) → row.promised ≡ Some promised → row.worst ≡ Some worst → worst ≤ promised

-- of each request's
pub record TellChannels (requests : List RequestEntry) (run : List Done) (rows : List ChannelRow) : Type 0 where
  pub all : length rows ≡ length requests
  pub each : (n : ℕ) (entry : RequestEntry) (row : ChannelRow) → slice_get requests n ≡ Some entry → slice_get rows n ≡ Some row → TellsChannel run entry row

-- in the run of the plan by the schedule
pub record AreChannelsOf (parts : PlanParts) (schedule : Schedule) (rows : List ChannelRow) : Type 0 where
  pub run : List Done
  pub played : IsPlayed (network_of parts) schedule run
  pub tells : TellChannels parts.requests run rows
