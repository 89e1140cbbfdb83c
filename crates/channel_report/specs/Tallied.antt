-- What a tally keeps of a run, which is listed newest first: the counts of the links, what the sources of the channels have planned,
-- how the channels' packets were delivered, the hops of the channels, all rows where there is to be a table, how many steps there
-- were, and how many each actor has made.
use Rattle.std.specs.Prelude.{◌≡◌, List, length, reverse}
use Rattle.call_script.specs.Parts.{PlanParts}
use Rattle.call_script.specs.Tasks.{network_of}
use Rattle.run_engine.specs.runs.Runs.{IsRun}
use Rattle.run_engine.specs.schedules.Standing.{CallersStand}
use Rattle.run_engine.specs.declared.callers.Callers.{Callers}
use Rattle.run_record.specs.Hops.{AreHops}
use Rattle.run_record.specs.Rows.{departures_in}
use Rattle.run_record.specs.declared.done.Done.{Done}
use Rattle.channel_report.specs.ChannelTallies.{AreChannelTallies}
use Rattle.channel_report.specs.Flows.{AreFlows}
use Rattle.channel_report.specs.KeptRows.{AreKeptIf}
use Rattle.channel_report.specs.StepCounts.{AreStepCounts}
use Rattle.channel_report.specs.Tallies.{AreLinkTallies, AreToldTallies}
use Rattle.channel_report.specs.declared.tally.Tally.{Tally}

-- a tally of the run
pub record IsTallied (parts : PlanParts) (run : List Done) (tally : Tally) : Type 0 where
  pub links : AreLinkTallies (length parts.links) run tally.links.items
  pub channels : AreChannelTallies parts.requests run tally.channels.items
  -- by the rows of the run, whatever offers tell their hops
  pub flows : (whole : List Done) → AreFlows parts.requests (reverse (departures_in whole (reverse run))) tally.flows.items
  pub hops : AreHops (reverse run) tally.hops.channels.items
  pub rows : AreKeptIf tally.packets (reverse run) tally.rows.items
  pub made : AreStepCounts run tally.made.items
  pub steps : tally.steps ≡ length run

-- a tally of the run, but for what steps that tell nothing change: of the steps since an earlier run none is counted, and no clock of a link
-- goes on
pub record IsLagging (parts : PlanParts) (past run : List Done) (tally : Tally) : Type 0 where
  pub links : AreToldTallies (length parts.links) run tally.links.items
  pub channels : AreChannelTallies parts.requests run tally.channels.items
  pub flows : (whole : List Done) → AreFlows parts.requests (reverse (departures_in whole (reverse run))) tally.flows.items
  pub hops : AreHops (reverse run) tally.hops.channels.items
  pub rows : AreKeptIf tally.packets (reverse run) tally.rows.items
  pub made : AreStepCounts past tally.made.items
  pub steps : tally.steps ≡ length past

-- the callers stand for a run of the plan, and the tally is of it
pub record IsTalliedRun (parts : PlanParts) (callers : Callers) (tally : Tally) (run : List Done) : Type 0 where
  pub is_run : IsRun (network_of parts) run
  pub stand : CallersStand parts callers run
  pub tallied : IsTallied parts run tally
