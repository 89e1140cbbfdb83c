-- A race is played again, exactly. The schedule that a race prints, written under its scenario, makes a text; where that has at
-- most 4,194,304 bytes, it is read as the same plan, with a schedule by which the plan is played to the very run of the race. So what
-- `play` is due to write for that text is the race's report. Of a race that the program has made nothing else is asked.
use Rattle.std.specs.Prelude.{◌≡◌, ◌≤◌, ℕ, Bool, Option, Some, List, length, reverse}
use Rattle.call_script.specs.Parts.{PlanParts}
use Rattle.call_script.specs.Plans.{IsPlan}
use Rattle.call_script.specs.Tasks.{network_of}
use Rattle.call_script.specs.declared.schedule.Schedule.{Schedule}
use Rattle.channel_report.specs.Report.{report_of}
use Rattle.run_engine.specs.schedules.Schedules.{IsPlayed}
use Rattle.run_record.specs.declared.done.Done.{Done}
use Rattle.scenario_reader.specs.BothWays.{AreNamed, HaveFoundRoutes}
use Rattle.scenario_reader.specs.PlanText.{plan_text}
use Rattle.scenario_reader.specs.Reading.{PlanRead, reading}
use Rattle.scenario_reader.specs.declared.reader.TheConstants.{MOST_BYTES}
use Rattle.shared_network.specs.declared.closing.Closed.{Closed}
use Rattle.tenet_app.specs.Playing.{Ends, IsDueFor}
use Rattle.tenet_app.specs.Racing.{IsRaceOf, RacesDone}
use Rattle.tenet_app.specs.declared.status.Status.TheVariants as status

-- the text of the plan and the schedule is read as the plan and a schedule that is played to this run, and its report is due for the
-- text, with the table of packets or without it
pub record IsPlayedAgain (parts : PlanParts) (schedule : Schedule) (entries : List Done) : Type 0 where
  pub again : Schedule
  pub read : reading MOST_BYTES (plan_text parts schedule) ≡ PlanRead parts again
  pub played : IsPlayed (network_of parts) again (reverse entries)
  pub due : (packets : Bool) → IsDueFor packets status.Done (report_of parts entries packets) (reading MOST_BYTES (plan_text parts schedule))

-- so it is for every race of a plan
abbrev pub RacesArePlayedAgain : Type 0
RacesArePlayedAgain = (parts : PlanParts) (closed : Closed) (schedule : Schedule) (entries : List Done) → IsPlan parts → AreNamed parts → HaveFoundRoutes parts
    → IsRaceOf parts closed schedule entries → length (plan_text parts schedule) ≤ MOST_BYTES → IsPlayedAgain parts schedule entries

-- and so for every race that was made and told to its end, where the source told its bytes: the plan that they come to has names, and
-- routes that were found
abbrev pub EveryRaceIsPlayedAgain : Type 0
EveryRaceIsPlayedAgain = (packets : Bool) (raced : Option Closed) (before after : Ends) (bytes : List ℕ) → before.left ≡ Some bytes → (done : RacesDone packets raced before after)
    → length (plan_text done.parts done.schedule) ≤ MOST_BYTES → IsPlayedAgain done.parts done.schedule done.entries
