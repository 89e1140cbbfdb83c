-- What the word `audit` answers. The bytes of the source determine what is due: what is found in the table of packets, audited
-- against the plan and the accepted levels that the bytes read as; one line, where a line is refused; or nothing, where there are
-- too many bytes. The schedule isn't played. The status says how far that came. A fault of reading or writing is answered only
-- where the count of faults of the source or the sink rose. What is said of bytes holds where the source and the sink make them
-- known.
use Rattle.std.specs.Prelude.{◌≡◌, ℕ, Bool, false, ◌⊎◌, Option, Some, List, [], ◌∷◌, ◌++◌, codes}
use Rattle.std.specs.Io.KnownBytes.{Appends, Keeps, IsAtEnd}
use Rattle.byte_ends.specs.Faults.{FaultsRise}
use Rattle.byte_ends.specs.Gathering.{WritesPart}
use Rattle.net_units.specs.declared.levels.Levels.{Levels}
use Rattle.call_script.specs.Accepted.{AreAccepted}
use Rattle.call_script.specs.Parts.{PlanParts}
use Rattle.call_script.specs.Plans.{IsPlan}
use Rattle.run_record.specs.declared.rows.HopRow.{HopRow}
use Rattle.scenario_reader.specs.AuditKept.{levels_given}
use Rattle.scenario_reader.specs.AuditReading.{AuditReading, AuditRead, BadAuditLine, TooManyAuditBytes, audit_reading, LetsAuditPass}
use Rattle.scenario_reader.specs.AuditSteps.{AuditBytes}
use Rattle.scenario_reader.specs.Words.{cause_of}
use Rattle.scenario_reader.specs.declared.cause.Cause.{Cause}
use Rattle.scenario_reader.specs.declared.reader.TheConstants.{MOST_BYTES}
use Rattle.trace_audit.specs.Bounds.{TableKept}
use Rattle.trace_audit.specs.Checks.{finding_of, IsSound}
use Rattle.trace_audit.specs.Words.{finding_text}
use Rattle.trace_audit.specs.declared.finding.Finding.{Finding}
use Rattle.trace_audit.specs.declared.finding.Finding.TheVariants.{Sound}
use Rattle.tenet_app.specs.Playing.{Ends, refusal_line, MeetsNoFault, is_this_word}
use Rattle.tenet_app.specs.declared.status.Status.{Status}
use Rattle.tenet_app.specs.declared.status.Status.TheVariants as status

-- ---- what is due

-- audit ok ROWS, or audit row N WORD
abbrev pub finding_line : Finding → List ℕ
finding_line finding = finding_text finding ++ 10 ∷ []

-- a plan, the levels of its accepted requests and a table come to what an audit finds in it
pub record DueOfAudit (parts : PlanParts) (given : List (Option (List ℕ))) (rows : List HopRow) (answer : Status) (text : List ℕ) : Type 0 where
  pub levels : List (Option Levels)
  pub same : levels_given levels ≡ given
  pub done : answer ≡ status.Done
  pub finding : text ≡ finding_line (finding_of parts levels rows)

-- the status and the text that are due for what the bytes come to
abbrev pub IsAuditDue : Status → List ℕ → AuditReading → Type 0
IsAuditDue answer text (AuditRead parts given rows) = DueOfAudit parts given rows answer text
IsAuditDue answer text (BadAuditLine line why) = (answer ≡ status.Refused line (cause_of why)) × (text ≡ refusal_line line (cause_of why))
IsAuditDue answer text TooManyAuditBytes = (answer ≡ status.TooLong) × (text ≡ [])

-- a prefix of a text that is due was written
pub record FrontOfAudit (written written' : Option (List ℕ)) (r : AuditReading) : Type 0 where
  pub answer : Status
  pub text : List ℕ
  pub due : IsAuditDue answer text r
  pub front : WritesPart written written' text

-- ---- what a status says

-- the input was read to its end; its table was audited, and what was found was written; and where that is that the table is sound, each of
-- its rows passes every check, and its packets keep the bounds of their hops and of their requests
pub record AuditsDone (before after : Ends) : Type 0 where
  pub parts : PlanParts
  pub levels : List (Option Levels)
  pub rows : List HopRow
  pub plan : IsPlan parts
  pub accepted : AreAccepted parts levels
  pub read : AuditBytes before.left (λ r. r ≡ AuditRead parts (levels_given levels) rows)
  pub ended : IsAtEnd after.left
  pub sound : (count : ℕ) → finding_of parts levels rows ≡ Sound count → IsSound parts levels rows
  pub kept : (count : ℕ) → finding_of parts levels rows ≡ Sound count → TableKept parts levels rows
  pub written : Appends before.written after.written (finding_line (finding_of parts levels rows))

-- that is due for the bytes, and one line that tells it was written
pub record AuditsRefused (line : ℕ) (told : Cause) (before after : Ends) : Type 0 where
  pub due : AuditBytes before.left (IsAuditDue (status.Refused line told) (refusal_line line told))
  pub written : Appends before.written after.written (refusal_line line told)

-- there are too many bytes, and nothing was written
pub record AuditsTooLong (before after : Ends) : Type 0 where
  pub over : AuditBytes before.left (λ r. r ≡ TooManyAuditBytes)
  pub written : Keeps before.written after.written

-- the source failed before a whole line that is refused or a byte too many was taken from it, and nothing was written
pub record AuditsReadFault (before after : Ends) : Type 0 where
  pub passing : LetsAuditPass MOST_BYTES before.left after.left
  pub rises : FaultsRise before.read_faults after.read_faults
  pub written : Keeps before.written after.written

-- the sink failed, and a prefix of the text due was written
pub record AuditsWriteFault (before after : Ends) : Type 0 where
  pub rises : FaultsRise before.write_faults after.write_faults
  pub written : AuditBytes before.left (FrontOfAudit before.written after.written)

abbrev pub Audits : Status → Ends → Ends → Type 0
Audits status.Done before after = AuditsDone before after
Audits status.Memory before after = Keeps before.written after.written
Audits status.Words before after = ⊥
Audits status.ReadFault before after = AuditsReadFault before after
Audits status.WriteFault before after = AuditsWriteFault before after
Audits (status.Refused line told) before after = AuditsRefused line told before after
Audits status.TooLong before after = AuditsTooLong before after

-- ---- the parts of an answer

-- what was found was told, or memory ran out before, or the sink failed after a prefix of its line
abbrev pub TellsFinding : Finding → Status → Option (List ℕ) → Option (List ℕ) → ℕ → ℕ → Type 0
TellsFinding finding status.Done written written' faults faults' = Appends written written' (finding_line finding)
TellsFinding finding status.Memory written written' faults faults' = Keeps written written'
TellsFinding finding status.WriteFault written written' faults faults' = FaultsRise faults faults' × WritesPart written written' (finding_line finding)
TellsFinding finding status.Words written written' faults faults' = ⊥
TellsFinding finding status.ReadFault written written' faults faults' = ⊥
TellsFinding finding (status.Refused line told) written written' faults faults' = ⊥
TellsFinding finding status.TooLong written written' faults faults' = ⊥

-- what a table's audit says of it
pub record IsFindingOf (parts : PlanParts) (levels : List (Option Levels)) (rows : List HopRow) (finding : Finding) : Type 0 where
  pub value : finding ≡ finding_of parts levels rows
  pub sound : (count : ℕ) → finding ≡ Sound count → IsSound parts levels rows
  pub kept : (count : ℕ) → finding ≡ Sound count → TableKept parts levels rows

-- what was found in a table was told, or memory ran out before anything was found
pub data AnswersTable (parts : PlanParts) (levels : List (Option Levels)) (rows : List HopRow) (answer : Status)
    (written written' : Option (List ℕ)) (faults faults' : ℕ) : Type 0 where
  TableTold : (finding : Finding) → IsFindingOf parts levels rows finding → TellsFinding finding answer written written' faults faults'
      → AnswersTable parts levels rows answer written written' faults faults'
  TableUntold : answer ≡ status.Memory → Keeps written written' → AnswersTable parts levels rows answer written written' faults faults'

-- ---- laws

-- a status and a text that are due for the bytes
pub record AuditDueFor (answer : Status) (bytes : List ℕ) : Type 0 where
  pub text : List ℕ
  pub due : IsAuditDue answer text (audit_reading MOST_BYTES bytes)

pub record AuditsDetermine : Type 0 where
  -- where nothing fails, an answer that `audit` may give is due for the bytes, or memory ran out
  pub answers : (before after : Ends) (answer : Status) (bytes : List ℕ) → before.left ≡ Some bytes → MeetsNoFault before after
      → Audits answer before after → (answer ≡ status.Memory) ⊎ AuditDueFor answer bytes
  -- and no two are due
  pub one : (r : AuditReading) (answer other : Status) (text text_other : List ℕ) → IsAuditDue answer text r
      → IsAuditDue other text_other r → (answer ≡ other) × (text ≡ text_other)

-- ---- the word

-- the word `audit` alone
abbrev pub audit_words : List (List ℕ) → Bool
audit_words [] = false
audit_words (word ∷ []) = is_this_word (codes "audit") word
audit_words (first ∷ second ∷ others) = false
