-- Questions about packets are put to the run of a plan by its schedule. The run is recorded, and the callers stand after it.
use Rattle.std.specs.Prelude.{◌≤◌, ℕ, List, reverse}
use Rattle.net_units.specs.Numbers.{actor_number}
use Rattle.call_script.specs.Parts.{PlanParts}
use Rattle.call_script.specs.Plans.{IsPlan}
use Rattle.call_script.specs.Tasks.{network_of}
use Rattle.call_script.specs.declared.schedule.Do.{Do}
use Rattle.run_engine.specs.runs.Runs.{IsRun}
use Rattle.run_engine.specs.schedules.Standing.{CallersStand}
use Rattle.run_record.specs.declared.done.Done.{Done}
use Rattle.packet_answers.specs.declared.playing.Played.{Played}

-- the run that was recorded, newest first
abbrev pub run_in : Played → List Done
run_in played = reverse played.record.entries

-- it is a run of the plan, after which its callers stand
pub record StandsAfter (parts : PlanParts) (played : Played) : Type 0 where
  pub plan : IsPlan parts
  pub run : IsRun (network_of parts) (run_in played)
  pub callers : CallersStand parts played.callers (run_in played)

-- the actor of an item is one of the first callers, or the plane after them
abbrev pub IsActorAmong : ℕ → Do → Type 0
IsActorAmong callers item = actor_number item.actor ≤ callers
