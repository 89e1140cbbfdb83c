-- What the word `race` answers. The bytes of the source determine a plan, or that there is none. A race of the plan leaves journals
-- and passes that are whole for it. All entries of the journals, in order of stamp, are one run of the plan, in which every actor
-- makes all its steps; its schedule lists their actors in maximal runs. The text that is due is that schedule and the report of
-- that run. Which race happens isn't determined, so the bytes determine the status, and the journals the text. A schedule that is
-- written in the scenario is read for its form and not used. A fault of reading or writing is answered only where the count of
-- faults of the source or the sink rose. What is said of bytes holds where the source and the sink make them known.
use Rattle.std.specs.Prelude.{◌≡◌, ℕ, Bool, true, false, ◌&&◌, ◌||◌, if◌then◌else◌, ◌⊎◌, Option, Some, None, Result, Ok, Err, List, [], ◌∷◌, ◌++◌, length, reverse, codes}
use Rattle.std.specs.Io.KnownBytes.{Appends, Keeps, IsAtEnd}
use Rattle.byte_ends.specs.Faults.{FaultsRise}
use Rattle.byte_ends.specs.Gathering.{WritesPart}
use Rattle.call_script.specs.Parts.{PlanParts}
use Rattle.call_script.specs.Plans.{IsPlan}
use Rattle.call_script.specs.Tasks.{network_of}
use Rattle.call_script.specs.declared.schedule.Do.{Do}
use Rattle.call_script.specs.declared.schedule.Schedule.{Schedule}
use Rattle.text_writer.specs.Lines.{whole_line}
use Rattle.channel_report.specs.Report.{report_of}
use Rattle.channel_report.specs.Schedule.{schedule_of}
use Rattle.run_engine.specs.runs.Runs.{next_for}
use Rattle.run_engine.specs.schedules.Schedules.{IsPlayed}
use Rattle.interleave_core.specs.channels.Laws.{IsGuaranteedRun}
use Rattle.link_steps.specs.Lists.{Each}
use Rattle.race_run.specs.Turns.{AreMaximalRuns, IsWritable, actors_of}
use Rattle.race_run.specs.Whole.{IsWhole, weave_of}
use Rattle.run_record.specs.declared.done.Done.{Done}
use Rattle.scenario_reader.specs.Reading.{Reading, PlanRead, BadLine, TooManyBytes, reading}
use Rattle.scenario_reader.specs.ReadSteps.{RefusesLine, scenarios}
use Rattle.scenario_reader.specs.Words.{cause_of}
use Rattle.scenario_reader.specs.declared.cause.Cause.{Cause}
use Rattle.scenario_reader.specs.declared.cause.Cause.TheVariants as cause
use Rattle.scenario_reader.specs.declared.reader.TheConstants.{MOST_BYTES}
use Rattle.shared_network.specs.declared.closing.Closed.{Closed}
use Rattle.tenet_app.specs.Playing.{Ends, refusal_line, BytesComeTo, PlaysTooLong, PlaysReadFault, MeetsNoFault, is_this_word}
use Rattle.tenet_app.specs.declared.status.Status.{Status}
use Rattle.tenet_app.specs.declared.status.Status.TheVariants as status

-- ---- a race of a plan

-- the journals and passes are whole for the plan. The entries, in order of time, are the weave of the journals, and the schedule
-- is their actors in maximal runs, which the scenario's language can write. They are the plan's run by this schedule, after them
-- no actor has a step left, and they have the whole guarantee at the beginning and after each of them
pub record IsRaceOf (parts : PlanParts) (closed : Closed) (schedule : Schedule) (entries : List Done) : Type 0 where
  pub whole : IsWhole (network_of parts) closed.passes closed.journals
  pub weave : reverse entries ≡ weave_of closed.journals
  pub written : schedule.written ≡ true
  pub runs : AreMaximalRuns (actors_of entries) schedule.items
  pub language : Each (IsWritable (length parts.callers)) schedule.items
  pub played : IsPlayed (network_of parts) schedule (reverse entries)
  pub over : (actor : ℕ) → next_for (network_of parts) actor (reverse entries) ≡ None
  pub guaranteed : IsGuaranteedRun parts (reverse entries)

-- the line `schedule`, the lines of the schedule, the line `report`, and the report
abbrev pub race_text : PlanParts → List Do → List Done → Bool → List ℕ
race_text parts items entries packets =
    whole_line (codes "schedule" ∷ [])
    ++ (schedule_of parts.callers items
    ++ (whole_line (codes "report" ∷ [])
    ++ report_of parts entries packets))

-- ---- what is due

-- the text of some race of the plan
pub record DueOfRace (packets : Bool) (parts : PlanParts) (text : List ℕ) : Type 0 where
  pub closed : Closed
  pub schedule : Schedule
  pub entries : List Done
  pub race : IsRaceOf parts closed schedule entries
  pub is : text ≡ race_text parts schedule.items entries packets

-- the status and a text that are due for what the bytes come to
abbrev pub IsDueForRace : Bool → Status → List ℕ → Reading → Type 0
IsDueForRace packets answer text (PlanRead parts schedule) = (answer ≡ status.Done) × DueOfRace packets parts text
IsDueForRace packets answer text (BadLine line why) = (answer ≡ status.Refused line (cause_of why)) × (text ≡ refusal_line line (cause_of why))
IsDueForRace packets answer text TooManyBytes = (answer ≡ status.TooLong) × (text ≡ [])

-- a prefix of a text that is due was written
pub record FrontOfRace (packets : Bool) (answer : Status) (written written' : Option (List ℕ)) (r : Reading) : Type 0 where
  pub text : List ℕ
  pub due : IsDueForRace packets answer text r
  pub front : WritesPart written written' text

-- of whatever status
pub record FrontOfAnyRace (packets : Bool) (written written' : Option (List ℕ)) (r : Reading) : Type 0 where
  pub answer : Status
  pub front : FrontOfRace packets answer written written' r

-- ---- what a status says

-- the scenario was read to its end; its plan was raced; the journals and passes of that race are handed back; and its schedule
-- and the report of its run were written
pub record RacesDone (packets : Bool) (raced : Option Closed) (before after : Ends) : Type 0 where
  pub parts : PlanParts
  pub unused : Schedule
  pub plan : IsPlan parts
  pub read : BytesComeTo before.left (λ r. r ≡ PlanRead parts unused)
  pub ended : IsAtEnd after.left
  pub closed : Closed
  pub handed : raced ≡ Some closed
  pub schedule : Schedule
  pub entries : List Done
  pub race : IsRaceOf parts closed schedule entries
  pub written : Appends before.written after.written (race_text parts schedule.items entries packets)

-- the line is refused, by a cause of reading, and one line that tells it was written
pub record RacesRefused (line : ℕ) (told : Cause) (before after : Ends) : Type 0 where
  pub due : BytesComeTo before.left (RefusesLine scenarios line told)
  pub written : Appends before.written after.written (refusal_line line told)

-- the sink failed, and a prefix of the text due was written
pub record RacesWriteFault (packets : Bool) (before after : Ends) : Type 0 where
  pub rises : FaultsRise before.write_faults after.write_faults
  pub written : BytesComeTo before.left (FrontOfAnyRace packets before.written after.written)

-- memory ran out before anything was written, or after a prefix of the text of one complete schedule
abbrev pub RacesMemory : Bool → Ends → Ends → Type 0
RacesMemory packets before after = Keeps before.written after.written ⊎ BytesComeTo before.left (FrontOfRace packets status.Done before.written after.written)

abbrev pub Races : Bool → Status → Option Closed → Ends → Ends → Type 0
Races packets status.Done raced before after = RacesDone packets raced before after
Races packets status.Memory raced before after = RacesMemory packets before after
Races packets status.Words raced before after = ⊥
Races packets status.ReadFault raced before after = PlaysReadFault before after
Races packets status.WriteFault raced before after = RacesWriteFault packets before after
Races packets (status.Refused line told) raced before after = RacesRefused line told before after
Races packets status.TooLong raced before after = PlaysTooLong before after

-- ---- the parts of an answer

-- the plan was read to the scenario's end, and nothing was written
pub record ReadsPlan (parts : PlanParts) (before after : Ends) : Type 0 where
  pub unused : Schedule
  pub plan : IsPlan parts
  pub read : BytesComeTo before.left (λ r. r ≡ PlanRead parts unused)
  pub ended : IsAtEnd after.left

-- a prefix of the line that refuses a line was written
pub record FrontOfRefusal (written written' : Option (List ℕ)) (r : Reading) : Type 0 where
  pub line : ℕ
  pub why : Cause
  pub bad : RefusesLine scenarios line why r
  pub front : WritesPart written written' (refusal_line line why)

-- what a status says, where no plan was read
abbrev pub StopsReading : Status → Ends → Ends → Type 0
StopsReading status.Done before after = ⊥
StopsReading status.Memory before after = Keeps before.written after.written
StopsReading status.Words before after = ⊥
StopsReading status.ReadFault before after = PlaysReadFault before after
StopsReading status.WriteFault before after = FaultsRise before.write_faults after.write_faults × BytesComeTo before.left (FrontOfRefusal before.written after.written)
StopsReading (status.Refused line told) before after = RacesRefused line told before after
StopsReading status.TooLong before after = PlaysTooLong before after

-- a plan was read, or why not
abbrev pub ReadsForRace : Result PlanParts Status → Ends → Ends → Type 0
ReadsForRace (Ok parts) before after = ReadsPlan parts before after
ReadsForRace (Err why) before after = StopsReading why before after

-- the race was told, and it is one of the plan
pub record TellsRace (packets : Bool) (parts : PlanParts) (raced : Option Closed) (written written' : Option (List ℕ)) : Type 0 where
  pub closed : Closed
  pub handed : raced ≡ Some closed
  pub schedule : Schedule
  pub entries : List Done
  pub race : IsRaceOf parts closed schedule entries
  pub appends : Appends written written' (race_text parts schedule.items entries packets)

-- a prefix of the text of a race of the plan was written
pub record FrontOfPlansRace (packets : Bool) (parts : PlanParts) (written written' : Option (List ℕ)) : Type 0 where
  pub text : List ℕ
  pub due : DueOfRace packets parts text
  pub front : WritesPart written written' text

-- what a status says, where the plan was read
abbrev pub AnswersRace : Bool → PlanParts → Status → Option Closed → Option (List ℕ) → Option (List ℕ) → ℕ → ℕ → Type 0
AnswersRace packets parts status.Done raced written written' faults faults' = TellsRace packets parts raced written written'
AnswersRace packets parts status.Memory raced written written' faults faults' = Keeps written written' ⊎ FrontOfPlansRace packets parts written written'
AnswersRace packets parts status.WriteFault raced written written' faults faults' = FaultsRise faults faults' × FrontOfPlansRace packets parts written written'
AnswersRace packets parts (status.Refused line told) raced written written' faults faults' = ⊥
AnswersRace packets parts status.Words raced written written' faults faults' = ⊥
AnswersRace packets parts status.ReadFault raced written written' faults faults' = ⊥
AnswersRace packets parts status.TooLong raced written written' faults faults' = ⊥

-- ---- laws

-- a status and a text that are due for the bytes
pub record DueForRace (packets : Bool) (answer : Status) (bytes : List ℕ) : Type 0 where
  pub text : List ℕ
  pub due : IsDueForRace packets answer text (reading MOST_BYTES bytes)

pub record RacesAreDue : Type 0 where
  -- where nothing fails, an answer that `race` may give is due for the bytes, or memory ran out
  pub answers : (packets : Bool) (before after : Ends) (answer : Status) (raced : Option Closed) (bytes : List ℕ) → before.left ≡ Some bytes → MeetsNoFault before after → Races packets answer raced before after → (answer ≡ status.Memory) ⊎ DueForRace packets answer bytes
  -- no two statuses are due
  pub one : (packets : Bool) (r : Reading) (answer other : Status) (text text_other : List ℕ) → IsDueForRace packets answer text r → IsDueForRace packets other text_other r → answer ≡ other
  -- no line is refused for a missing step
  pub no_step : (packets : Bool) (r : Reading) (line : ℕ) (text : List ℕ) → IsDueForRace packets (status.Refused line cause.Step) text r → ⊥
  -- and the journals determine the text
  pub one_text : (packets : Bool) (parts : PlanParts) (closed : Closed) (schedule other : Schedule) (entries others : List Done) → IsRaceOf parts closed schedule entries → IsRaceOf parts closed other others → race_text parts schedule.items entries packets ≡ race_text parts other.items others packets

-- ---- the words

-- one of these words is `race`, and the other `--packets`
abbrev pub are_both_to_race : List ℕ → List ℕ → Bool
are_both_to_race first second = is_this_word (codes "race") first && is_this_word (codes "--packets") second

-- `race` alone, or with `--packets` before or after it: whether the table of packets is asked for
abbrev pub race_words : List (List ℕ) → Option Bool
race_words [] = None
race_words (word ∷ []) = if is_this_word (codes "race") word then Some false else None
race_words (first ∷ second ∷ []) = if are_both_to_race first second || are_both_to_race second first then Some true else None
race_words (first ∷ second ∷ third ∷ others) = None
