-- What the word `play` answers. The bytes of the source determine what is due: the report of a run of the plan and the schedule
-- that they read as; one line, where a line is refused or asks for a step that isn't left; or nothing, where there are too many
-- bytes. The status says how far that came. A fault of reading or writing is answered only where the count of faults of the
-- source or the sink rose. What is said of bytes holds where the source and the sink make them known.
use Rattle.std.specs.Prelude.{◌≡◌, ℕ, ◌≤◌, Bool, true, false, ◌&&◌, ◌||◌, nat_eq, if◌then◌else◌, ◌⊎◌, Option, Some, None, IfSome, List, [], ◌∷◌, reverse, codes}
use Rattle.std.specs.Cmp.Lexicographic.{pointwise}
use Rattle.std.specs.Fmt.{decimal}
use Rattle.std.specs.Io.KnownBytes.{Appends, Keeps, IsAtEnd}
use Rattle.byte_ends.specs.Faults.{FaultsRise}
use Rattle.call_script.specs.Parts.{PlanParts}
use Rattle.call_script.specs.Plans.{IsPlan}
use Rattle.call_script.specs.Tasks.{network_of}
use Rattle.call_script.specs.declared.schedule.Schedule.{Schedule}
use Rattle.byte_ends.specs.Gathering.{WritesPart}
use Rattle.text_writer.specs.Lines.{whole_line}
use Rattle.channel_report.specs.Report.{report_of}
use Rattle.run_engine.specs.schedules.Schedules.{IsPlayed, AsksTooMuch}
use Rattle.interleave_core.specs.channels.Laws.{IsGuaranteedRun}
use Rattle.run_record.specs.declared.done.Done.{Done}
use Rattle.scenario_reader.specs.Reading.{Reading, PlanRead, BadLine, TooManyBytes, reading, LetsPass}
use Rattle.scenario_reader.specs.Words.{cause_of, cause_word}
use Rattle.scenario_reader.specs.declared.cause.Cause.{Cause}
use Rattle.scenario_reader.specs.declared.cause.Cause.TheVariants as cause
use Rattle.scenario_reader.specs.declared.reader.ReadRefusal.{ReadRefusal}
use Rattle.scenario_reader.specs.declared.reader.ReadRefusal.TheVariants as refusal
use Rattle.scenario_reader.specs.declared.reader.TheConstants.{MOST_BYTES}
use Rattle.tenet_app.specs.declared.status.Status.{Status}
use Rattle.tenet_app.specs.declared.status.Status.TheVariants as status

-- the source and the sink: the bytes left and written, where they tell them, and their counts of faults
pub record Ends : Type 0 where
  pub left : Option (List ℕ)
  pub read_faults : ℕ
  pub written : Option (List ℕ)
  pub write_faults : ℕ

-- ---- what is due

-- refused LINE CAUSE
abbrev pub refusal_line : ℕ → Cause → List ℕ
refusal_line line why = whole_line (codes "refused" ∷ decimal line ∷ cause_word why ∷ [])

-- a plan and a schedule come to the report of a run, with or without the table of packets, or to the line that asks for a step
-- that isn't left
pub data DueOfPlan (packets : Bool) (parts : PlanParts) (schedule : Schedule) (answer : Status) (text : List ℕ) : Type 0 where
  Reports : (run : List Done) → IsPlayed (network_of parts) schedule run → answer ≡ status.Done → text ≡ report_of parts (reverse run) packets → DueOfPlan packets parts schedule answer text
  Misses : (line made : ℕ) → AsksTooMuch (network_of parts) schedule line made → answer ≡ status.Refused line cause.Step → text ≡ refusal_line line cause.Step → DueOfPlan packets parts schedule answer text

-- the status and the text that are due for what the bytes come to
abbrev pub IsDueFor : Bool → Status → List ℕ → Reading → Type 0
IsDueFor packets answer text (PlanRead parts schedule) = DueOfPlan packets parts schedule answer text
IsDueFor packets answer text (BadLine line why) = (answer ≡ status.Refused line (cause_of why)) × (text ≡ refusal_line line (cause_of why))
IsDueFor packets answer text TooManyBytes = (answer ≡ status.TooLong) × (text ≡ [])

-- the bytes that the source had, where it tells them, come to this
abbrev pub BytesComeTo : Option (List ℕ) → (Reading → Type 0) → Type 0
BytesComeTo left P = IfSome left (λ bytes. P (reading MOST_BYTES bytes))

-- a prefix of a text that is due was written
pub record FrontOfDue (packets : Bool) (written written' : Option (List ℕ)) (r : Reading) : Type 0 where
  pub answer : Status
  pub text : List ℕ
  pub due : IsDueFor packets answer text r
  pub front : WritesPart written written' text

-- ---- what a status says

-- the scenario was read to its end; its schedule was played; the run is one of the plan, with the whole guarantee at its beginning
-- and after each of its entries; and the report of that run was written
pub record PlaysDone (packets : Bool) (before after : Ends) : Type 0 where
  pub parts : PlanParts
  pub schedule : Schedule
  pub run : List Done
  pub plan : IsPlan parts
  pub read : BytesComeTo before.left (λ r. r ≡ PlanRead parts schedule)
  pub ended : IsAtEnd after.left
  pub played : IsPlayed (network_of parts) schedule run
  pub guaranteed : IsGuaranteedRun parts run
  pub written : Appends before.written after.written (report_of parts (reverse run) packets)

-- that is due for the bytes, and one line that tells it was written
pub record PlaysRefused (packets : Bool) (line : ℕ) (told : Cause) (before after : Ends) : Type 0 where
  pub due : BytesComeTo before.left (IsDueFor packets (status.Refused line told) (refusal_line line told))
  pub written : Appends before.written after.written (refusal_line line told)

-- there are too many bytes, and nothing was written
pub record PlaysTooLong (before after : Ends) : Type 0 where
  pub over : BytesComeTo before.left (λ r. r ≡ TooManyBytes)
  pub written : Keeps before.written after.written

-- the source failed before a whole line that is refused or a byte too many was taken from it, and nothing was written
pub record PlaysReadFault (before after : Ends) : Type 0 where
  pub passing : LetsPass MOST_BYTES before.left after.left
  pub rises : FaultsRise before.read_faults after.read_faults
  pub written : Keeps before.written after.written

-- the sink failed, and a prefix of the text due was written
pub record PlaysWriteFault (packets : Bool) (before after : Ends) : Type 0 where
  pub rises : FaultsRise before.write_faults after.write_faults
  pub written : BytesComeTo before.left (FrontOfDue packets before.written after.written)

-- memory ran out before anything was written, or after a prefix of the text due
abbrev pub PlaysMemory : Bool → Ends → Ends → Type 0
PlaysMemory packets before after = Keeps before.written after.written ⊎ BytesComeTo before.left (FrontOfDue packets before.written after.written)

abbrev pub Plays : Bool → Status → Ends → Ends → Type 0
Plays packets status.Done before after = PlaysDone packets before after
Plays packets status.Memory before after = PlaysMemory packets before after
Plays packets status.Words before after = ⊥
Plays packets status.ReadFault before after = PlaysReadFault before after
Plays packets status.WriteFault before after = PlaysWriteFault packets before after
Plays packets (status.Refused line told) before after = PlaysRefused packets line told before after
Plays packets status.TooLong before after = PlaysTooLong before after

-- ---- the parts of an answer

-- a prefix of a text that is due for a plan and its schedule was written
pub record FrontOfPlan (packets : Bool) (parts : PlanParts) (schedule : Schedule) (written written' : Option (List ℕ)) : Type 0 where
  pub answer : Status
  pub text : List ℕ
  pub due : DueOfPlan packets parts schedule answer text
  pub front : WritesPart written written' text

-- the schedule was played, and the report of its run was written
pub record ReportsRun (packets : Bool) (parts : PlanParts) (schedule : Schedule) (written written' : Option (List ℕ)) : Type 0 where
  pub run : List Done
  pub played : IsPlayed (network_of parts) schedule run
  pub guaranteed : IsGuaranteedRun parts run
  pub appends : Appends written written' (report_of parts (reverse run) packets)

-- a step isn't left, and one line that tells it was written
pub record TellsMissing (parts : PlanParts) (schedule : Schedule) (line : ℕ) (told : Cause) (written written' : Option (List ℕ)) : Type 0 where
  pub step : told ≡ cause.Step
  pub made : ℕ
  pub missing : AsksTooMuch (network_of parts) schedule line made
  pub appends : Appends written written' (refusal_line line cause.Step)

-- what a status says, where the plan and its schedule were read
abbrev pub AnswersPlan : Bool → PlanParts → Schedule → Status → Option (List ℕ) → Option (List ℕ) → ℕ → ℕ → Type 0
AnswersPlan packets parts schedule status.Done written written' faults faults' = ReportsRun packets parts schedule written written'
AnswersPlan packets parts schedule status.Memory written written' faults faults' = Keeps written written' ⊎ FrontOfPlan packets parts schedule written written'
AnswersPlan packets parts schedule status.WriteFault written written' faults faults' = FaultsRise faults faults' × FrontOfPlan packets parts schedule written written'
AnswersPlan packets parts schedule (status.Refused line told) written written' faults faults' = TellsMissing parts schedule line told written written'
AnswersPlan packets parts schedule status.Words written written' faults faults' = ⊥
AnswersPlan packets parts schedule status.ReadFault written written' faults faults' = ⊥
AnswersPlan packets parts schedule status.TooLong written written' faults faults' = ⊥

-- a report was written, or a prefix of it
pub data WritesReport (answer : Status) (text : List ℕ) (written written' : Option (List ℕ)) (faults faults' : ℕ) : Type 0 where
  ReportWritten : answer ≡ status.Done → Appends written written' text → WritesReport answer text written written' faults faults'
  FrontWritten : answer ≡ status.WriteFault → FaultsRise faults faults' → WritesPart written written' text → WritesReport answer text written written' faults faults'
  LacksMemory : answer ≡ status.Memory → WritesPart written written' text → WritesReport answer text written written' faults faults'

-- a refusal was told, or memory ran out before, or the sink failed after a prefix of its line
pub data TellsRefusal (line : ℕ) (told : Cause) (answer : Status) (written written' : Option (List ℕ)) (faults faults' : ℕ) : Type 0 where
  RefusalTold : answer ≡ status.Refused line told → Appends written written' (refusal_line line told) → TellsRefusal line told answer written written' faults faults'
  FrontTold : answer ≡ status.WriteFault → FaultsRise faults faults' → WritesPart written written' (refusal_line line told) → TellsRefusal line told answer written written' faults faults'
  NotTold : answer ≡ status.Memory → Keeps written written' → TellsRefusal line told answer written written' faults faults'

-- why a text wasn't read is answered: a line that is refused was told, and of any other refusal nothing was written
abbrev pub TellsWhyUnread : ReadRefusal → Status → Option (List ℕ) → Option (List ℕ) → ℕ → ℕ → Type 0
TellsWhyUnread refusal.Memory answer written written' faults faults' = (answer ≡ status.Memory) × Keeps written written'
TellsWhyUnread refusal.ReadFault answer written written' faults faults' = (answer ≡ status.ReadFault) × Keeps written written'
TellsWhyUnread (refusal.TooLong taken) answer written written' faults faults' = (answer ≡ status.TooLong) × Keeps written written'
TellsWhyUnread (refusal.Refused line told) answer written written' faults faults' = TellsRefusal line told answer written written' faults faults'

-- neither count of faults rose
pub record MeetsNoFault (before after : Ends) : Type 0 where
  pub read : FaultsRise before.read_faults after.read_faults → ⊥
  pub write : FaultsRise before.write_faults after.write_faults → ⊥

-- no count of faults falls
pub record CountsRise (before after : Ends) : Type 0 where
  pub read : before.read_faults ≤ after.read_faults
  pub write : before.write_faults ≤ after.write_faults

-- ---- laws

-- a status and a text that are due for the bytes
pub record DueFor (packets : Bool) (answer : Status) (bytes : List ℕ) : Type 0 where
  pub text : List ℕ
  pub due : IsDueFor packets answer text (reading MOST_BYTES bytes)

pub record BytesDetermine : Type 0 where
  -- where nothing fails, an answer that `play` may give is due for the bytes, or memory ran out
  pub answers : (packets : Bool) (before after : Ends) (answer : Status) (bytes : List ℕ) → before.left ≡ Some bytes → MeetsNoFault before after → Plays packets answer before after → (answer ≡ status.Memory) ⊎ DueFor packets answer bytes
  -- and no two are due
  pub one : (packets : Bool) (r : Reading) (answer other : Status) (text text_other : List ℕ) → IsDueFor packets answer text r → IsDueFor packets other text_other r → (answer ≡ other) × (text ≡ text_other)

-- ---- the words

-- whether a word is this one
abbrev pub is_this_word : List ℕ → List ℕ → Bool
is_this_word text word = pointwise nat_eq word text

-- one of these words is `play`, and the other `--packets`
abbrev pub are_both : List ℕ → List ℕ → Bool
are_both first second = is_this_word (codes "play") first && is_this_word (codes "--packets") second

-- `play` alone, or with `--packets` before or after it: whether the table of packets is asked for
abbrev pub play_words : List (List ℕ) → Option Bool
play_words [] = None
play_words (word ∷ []) = if is_this_word (codes "play") word then Some false else None
play_words (first ∷ second ∷ []) = if are_both first second || are_both second first then Some true else None
play_words (first ∷ second ∷ third ∷ others) = None
