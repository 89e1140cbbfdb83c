-- What is found of a run before it is put into words: what each request has come to, what each link has
-- done, what the sources of the channels have planned, the rows of the packets, and their delays.
use Rattle.std.specs.Prelude.{◌≡◌, ◌^◌, ◌<◌, true, List, length, reverse}
use Rattle.call_script.specs.Parts.{PlanParts}
use Rattle.call_script.specs.Tasks.{network_of}
use Rattle.run_engine.specs.runs.Runs.{IsRun}
use Rattle.run_engine.specs.schedules.Standing.{CallersStand}
use Rattle.run_record.specs.Rows.{rows_of}
use Rattle.run_record.specs.declared.done.Done.{Done}
use Rattle.channel_report.specs.ChannelTallies.{AreChannelTallies}
use Rattle.channel_report.specs.DelayTallies.{AreDelayTallies}
use Rattle.channel_report.specs.Delays.{departures_of}
use Rattle.channel_report.specs.Tallies.{AreLinkTallies}
use Rattle.channel_report.specs.declared.findings.Findings.{Findings}

-- found of a run of the plan with these entries, in the order of time
pub record AreFound (parts : PlanParts) (entries : List Done) (findings : Findings) : Type 0 where
  pub run : IsRun (network_of parts) (reverse entries)
  pub callers : CallersStand parts findings.callers (reverse entries)
  pub links : AreLinkTallies (length parts.links) (reverse entries) findings.links.items
  pub rows : findings.packets ≡ true → findings.rows ≡ rows_of entries
  pub channels : AreChannelTallies parts.requests (reverse entries) findings.channels.items
  pub delays : AreDelayTallies parts.requests (reverse (departures_of entries)) findings.delays.items
  pub short : length entries < 2 ^ 60
  pub steps : findings.steps ≡ length entries
