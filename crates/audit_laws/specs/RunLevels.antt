-- The levels with which the requests of a plan were accepted in a run: a request has levels where its setup has ended in an
-- acceptance, and has those of that acceptance.
use Rattle.std.specs.Prelude.{◌≡◌, ℕ, Option, Some, None, List, length, reverse}
use Rattle.std.specs.List.{slice_get}
use Rattle.net_units.specs.Allotted.{levels_of}
use Rattle.net_units.specs.Numbers.{channel_number}
use Rattle.net_units.specs.declared.levels.Levels.{Levels}
use Rattle.setup_protocol.specs.Setup.{Outcome, Accepts, Denies, verdict_of}
use Rattle.call_script.specs.Parts.{PlanParts}
use Rattle.call_script.specs.declared.entries.RequestEntry.{RequestEntry}
use Rattle.run_engine.specs.replies.Verdicts.{setup_replies}
use Rattle.run_record.specs.declared.done.Done.{Done}
use Rattle.call_script.specs.Plans.{IsPlan}
use Rattle.call_script.specs.Tasks.{network_of}
use Rattle.run_engine.specs.runs.Runs.{IsRun}
use Rattle.link_steps.specs.Lists.{Each}
use Rattle.run_record.specs.Rows.{IsEarly, rows_of}
use Rattle.run_record.specs.SmallRows.{AreSmall}
use Rattle.call_script.specs.Accepted.{AreAccepted}
use Rattle.trace_audit.specs.Checks.{IsSound, finding_of}
use Rattle.trace_audit.specs.declared.finding.Finding.TheVariants.{Sound}
use Rattle.trace_audit.specs.Terms.{levels_given}

abbrev pub AreLevelsFor : Option Outcome → Option Levels → Type 0
AreLevelsFor (Some (Accepts levels delay)) (Some given) = levels_of given ≡ levels
AreLevelsFor (Some (Accepts levels delay)) None = ⊥
AreLevelsFor (Some (Denies deny)) (Some given) = ⊥
AreLevelsFor (Some (Denies deny)) None = Unit {0}
AreLevelsFor None (Some given) = ⊥
AreLevelsFor None None = Unit {0}

pub record AreLevelsOf (plan : PlanParts) (run : List Done) (levels : List (Option Levels)) : Type 0 where
  pub are : (c : ℕ) (entry : RequestEntry) → slice_get plan.requests c ≡ Some entry → AreLevelsFor (verdict_of entry.request (setup_replies (channel_number entry.request.chan) run)) (levels_given levels c)

-- the table of a run is sound for these levels
abbrev pub TablesOfRunsAreSound : Type 0
TablesOfRunsAreSound = (plan : PlanParts) (run : List Done) (levels : List (Option Levels)) → IsPlan plan → IsRun (network_of plan) run → AreLevelsOf plan run levels → IsSound plan levels (rows_of (reverse run))

-- so an audit finds nothing in it
abbrev pub AuditsOfRunsFindNothing : Type 0
AuditsOfRunsFindNothing = (plan : PlanParts) (run : List Done) (levels : List (Option Levels)) → IsPlan plan → IsRun (network_of plan) run → AreLevelsOf plan run levels → finding_of plan levels (rows_of (reverse run)) ≡ Sound (length (rows_of (reverse run)))

-- its rows are small enough to be audited
abbrev pub RowsOfRunsAreSmall : Type 0
RowsOfRunsAreSmall = (plan : PlanParts) (run : List Done) (levels : List (Option Levels)) → IsPlan plan → IsRun (network_of plan) run → AreLevelsOf plan run levels → AreSmall (rows_of (reverse run))

-- and each tick of the run is told early enough that the rows of its entries, in the order of time, can be made
abbrev pub EveryTickIsEarly : Type 0
EveryTickIsEarly = (plan : PlanParts) (run : List Done) → IsPlan plan → IsRun (network_of plan) run → Each (λ (done : Done). IsEarly done.reply) (reverse run)

-- and the levels keep what the requests ask for
abbrev pub LevelsOfRunsAreAccepted : Type 0
LevelsOfRunsAreAccepted = (plan : PlanParts) (run : List Done) (levels : List (Option Levels)) → IsPlan plan → IsRun (network_of plan) run → AreLevelsOf plan run levels → length levels ≡ length plan.requests → AreAccepted plan levels
