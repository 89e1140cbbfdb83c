-- What is due for the bytes of an audit is one status and one text, and what is written for a table or a refused line is due.
use Rattle.std.proofs.Common.{◌≡◌, ◌⊎◌, inl, inr, refl, ℕ, zero, suc, ◌-◌, List, [], ◌∷◌, Option, Some, None, length, option_map, slice_index_or, subst, sym, ◌∙◌, ap}
use Rattle.std.specs.Io.KnownBytes.{Appends, IsAtEnd}
use Rattle.std.specs.List.{slice_get}
use Rattle.byte_ends.specs.Faults.{FaultsRise}
use Rattle.net_units.specs.Allotted.{levels_of}
use Rattle.net_units.specs.Numbers.{channel_number}
use Rattle.net_units.specs.declared.levels.Levels.{Levels}
use Rattle.call_script.specs.Accepted.{AreAccepted}
use Rattle.call_script.specs.Parts.{PlanParts}
use Rattle.call_script.specs.Plans.{IsPlan}
use Rattle.call_script.specs.declared.entries.RequestEntry.{RequestEntry}
use Rattle.run_record.specs.declared.rows.HopRow.{HopRow}
use Rattle.scenario_reader.specs.AuditKept.{levels_given}
use Rattle.scenario_reader.specs.AuditReading.{AuditReading, AuditRead, BadAuditLine, TooManyAuditBytes, audit_reading, LetsAuditPass}
use Rattle.scenario_reader.specs.AuditSteps.{AuditBytes, RefusesReading, audits}
use Rattle.scenario_reader.specs.ReadSteps.{RefusesLine}
use Rattle.scenario_reader.specs.Words.{cause_of}
use Rattle.scenario_reader.specs.declared.cause.Cause.{Cause}
use Rattle.scenario_reader.specs.declared.cause.LineCause.{LineCause}
use Rattle.scenario_reader.specs.declared.reader.ReadRefusal.{ReadRefusal}
use Rattle.scenario_reader.specs.declared.reader.ReadRefusal.TheVariants as refusal
use Rattle.scenario_reader.specs.declared.reader.TheConstants.{MOST_BYTES}
use Rattle.trace_audit.specs.Checks.{fault_of, fault_under, finding_below, finding_of, found}
use Rattle.trace_audit.specs.Terms.{levels_given as given_at, terms_at, terms_of_request, terms_of_row}
use Rattle.trace_audit.specs.declared.finding.Finding.{Finding}
use Rattle.tenet_app.specs.Auditing.{AnswersTable, TableTold, TableUntold, IsFindingOf, TellsFinding, AuditDueFor, AuditsDetermine, AuditsDone, Audits, DueOfAudit, FrontOfAudit, IsAuditDue, finding_line}
use Rattle.tenet_app.specs.Playing.{Ends, MeetsNoFault, TellsRefusal, RefusalTold, FrontTold, NotTold, TellsWhyUnread, refusal_line}
use Rattle.tenet_app.specs.declared.status.Status.{Status}
use Rattle.tenet_app.specs.declared.status.Status.TheVariants as status

-- ---- what is found goes by the numbers of the levels alone

given-number : (levels : List (Option Levels)) (c : ℕ)
    → option_map levels_of (given_at levels c) ≡ slice_index_or (levels_given levels) c None
given-number [] c = refl
given-number (one ∷ levels) zero = refl
given-number (one ∷ levels) (suc c) = given-number levels c

same-request : (plan : PlanParts) (entry : Option RequestEntry) (one other : Option Levels) (i : ℕ)
    → option_map levels_of one ≡ option_map levels_of other → terms_of_request plan entry one i ≡ terms_of_request plan entry other i
same-request plan None one other i same = refl
same-request plan (Some entry) None None i same = refl
same-request plan (Some entry) None (Some other) i same = cc
same-request plan (Some entry) (Some one) None i same = cc
same-request plan (Some entry) (Some one) (Some other) i same = (let numbers : levels_of one ≡ levels_of other = cc in rw numbers refl)

same-terms : (plan : PlanParts) (one other : List (Option Levels)) (c i : ℕ) → levels_given one ≡ levels_given other
    → terms_at plan one c i ≡ terms_at plan other c i
unfolding terms_at
same-terms plan one other c i same =
    same-request plan (slice_get plan.requests c) (given_at one c) (given_at other c) i
    (given-number one c ∙ ap (λ (ls : List (Option (List ℕ))). slice_index_or ls c None) same ∙ sym (given-number other c))

same-row : (plan : PlanParts) (one other : List (Option Levels)) (row : HopRow) → levels_given one ≡ levels_given other
    → terms_of_row plan one row ≡ terms_of_row plan other row
unfolding terms_of_row
same-row plan one other row same = rw (same-terms plan one other (channel_number row.chan) (row.hop - 1) same) refl

same-below : (plan : PlanParts) (one other : List (Option Levels)) (above rows : List HopRow) → levels_given one ≡ levels_given other
    → finding_below plan one above rows ≡ finding_below plan other above rows
unfolding finding_below fault_of
same-below plan one other above [] same = refl
same-below plan one other above (row ∷ rows) same =
    ap (λ terms. found (fault_under terms above row) (length above) (finding_below plan one (row ∷ above) rows)) (same-row plan one other row same)
    ∙ ap (found (fault_under (terms_of_row plan other row) above row) (length above)) (same-below plan one other (row ∷ above) rows same)

-- ---- one status and one text

one-finding : (parts : PlanParts) (given : List (Option (List ℕ))) (rows : List HopRow) (answer other : Status) (text text_other : List ℕ)
    → DueOfAudit parts given rows answer text → DueOfAudit parts given rows other text_other → (answer ≡ other) × (text ≡ text_other)
one-finding parts given rows answer other text text_other one two =
    (one.done ∙ sym two.done, one.finding ∙ ap finding_line (same-below parts one.levels two.levels [] rows (one.same ∙ sym two.same)) ∙ sym two.finding)

one-due : (r : AuditReading) (answer other : Status) (text text_other : List ℕ) → IsAuditDue answer text r
    → IsAuditDue other text_other r → (answer ≡ other) × (text ≡ text_other)
one-due (AuditRead parts given rows) answer other text text_other one two = one-finding parts given rows answer other text text_other one two
one-due (BadAuditLine line why) answer other text text_other one two = (one.0 ∙ sym two.0, one.1 ∙ sym two.1)
one-due TooManyAuditBytes answer other text text_other one two = (one.0 ∙ sym two.0, one.1 ∙ sym two.1)

-- ---- an answer without a fault

at-bytes : (left : Option (List ℕ)) (bytes : List ℕ) (P : AuditReading → Type 0) → left ≡ Some bytes → AuditBytes left P
    → P (audit_reading MOST_BYTES bytes)
at-bytes left bytes P is come = subst (λ told. AuditBytes told P) is come

due-done : (before after : Ends) (bytes : List ℕ) → before.left ≡ Some bytes → AuditsDone before after → AuditDueFor status.Done bytes
due-done before after bytes is done =
    let read : audit_reading MOST_BYTES bytes ≡ AuditRead done.parts (levels_given done.levels) done.rows = at-bytes before.left bytes (λ r. r ≡ AuditRead done.parts (levels_given done.levels) done.rows) is done.read in
    let text = finding_line (finding_of done.parts done.levels done.rows) in
    record { text = text; due = subst (IsAuditDue status.Done text) (sym read) (record { levels = done.levels; same = refl; done = refl; finding = refl }) }

answers-due : (before after : Ends) (answer : Status) (bytes : List ℕ) → before.left ≡ Some bytes → MeetsNoFault before after
    → Audits answer before after → (answer ≡ status.Memory) ⊎ AuditDueFor answer bytes
answers-due before after status.Done bytes is none audits = inr (due-done before after bytes is audits)
answers-due before after status.Memory bytes is none audits = inl refl
answers-due before after status.Words bytes is none audits = absurd audits
answers-due before after status.ReadFault bytes is none audits = absurd (none.read audits.rises)
answers-due before after status.WriteFault bytes is none audits = absurd (none.write audits.rises)
answers-due before after (status.Refused line told) bytes is none audits =
    inr (record { text = refusal_line line told; due = at-bytes before.left bytes (IsAuditDue (status.Refused line told) (refusal_line line told)) is audits.due })
answers-due before after status.TooLong bytes is none audits =
    let over : audit_reading MOST_BYTES bytes ≡ TooManyAuditBytes = at-bytes before.left bytes (λ r. r ≡ TooManyAuditBytes) is audits.over in
    inr (record { text = []; due = subst (IsAuditDue status.TooLong []) (sym over) (refl, refl) })

pub audits-determine : AuditsDetermine
audits-determine = record { answers = answers-due; one = one-due }

-- ---- what is written

due-as : (left : Option (List ℕ)) (r : AuditReading) (P : AuditReading → Type 0) → AuditBytes left (λ found. found ≡ r) → P r
    → AuditBytes left P
due-as None r P read due = tt
due-as (Some bytes) r P read due = subst P (sym read) due

-- what was found was told
table-told : (before after : Ends) (answer : Status) (parts : PlanParts) (levels : List (Option Levels)) (rows : List HopRow) (finding : Finding)
    → IsPlan parts → AreAccepted parts levels → AuditBytes before.left (λ r. r ≡ AuditRead parts (levels_given levels) rows) → IsAtEnd after.left
    → IsFindingOf parts levels rows finding → TellsFinding finding answer before.written after.written before.write_faults after.write_faults
    → Audits answer before after
table-told before after status.Done parts levels rows finding plan accepted read ended is tells = record {
  parts = parts;
  levels = levels;
  rows = rows;
  plan = plan;
  accepted = accepted;
  read = read;
  ended = ended;
  sound = λ count same. is.sound count (is.value ∙ same);
  kept = λ count same. is.kept count (is.value ∙ same);
  written = subst (λ f. Appends before.written after.written (finding_line f)) is.value tells;
}
table-told before after status.Memory parts levels rows finding plan accepted read ended is tells = tells
table-told before after status.Words parts levels rows finding plan accepted read ended is tells = absurd tells
table-told before after status.ReadFault parts levels rows finding plan accepted read ended is tells = absurd tells
table-told before after status.WriteFault parts levels rows finding plan accepted read ended is tells = record {
  rises = tells.0;
  written = due-as before.left (AuditRead parts (levels_given levels) rows) (FrontOfAudit before.written after.written) read (record {
    answer = status.Done;
    text = finding_line finding;
    due = record { levels = levels; same = refl; done = refl; finding = ap finding_line is.value };
    front = tells.1;
  });
}
table-told before after (status.Refused line why) parts levels rows finding plan accepted read ended is tells = absurd tells
table-told before after status.TooLong parts levels rows finding plan accepted read ended is tells = absurd tells

-- an input was read
pub audits-table : (before after : Ends) (answer : Status) (parts : PlanParts) (levels : List (Option Levels)) (rows : List HopRow)
    → IsPlan parts → AreAccepted parts levels → AuditBytes before.left (λ r. r ≡ AuditRead parts (levels_given levels) rows) → IsAtEnd after.left
    → AnswersTable parts levels rows answer before.written after.written before.write_faults after.write_faults → Audits answer before after
audits-table before after answer parts levels rows plan accepted read ended (TableTold finding is tells) =
    table-told before after answer parts levels rows finding plan accepted read ended is tells
audits-table before after answer parts levels rows plan accepted read ended (TableUntold is keeps) = subst (λ a. Audits a before after) (sym is) keeps

-- a line was refused
bad-as : (left : Option (List ℕ)) (line : ℕ) (told : Cause) (P : AuditReading → Type 0) → AuditBytes left (RefusesLine audits line told)
    → ((why : LineCause) → told ≡ cause_of why → P (BadAuditLine line why)) → AuditBytes left P
bad-as None line told P refused due = tt
bad-as (Some bytes) line told P refused due = subst P (sym refused.is) (due refused.why refused.same)

refused-audits : (before after : Ends) (answer : Status) (line : ℕ) (why : Cause)
    → AuditBytes before.left (RefusesLine audits line why)
    → TellsRefusal line why answer before.written after.written before.write_faults after.write_faults → Audits answer before after
refused-audits before after answer line why told (RefusalTold is appends) =
    subst (λ a. Audits a before after) (sym is)
    (record { due = bad-as before.left line why (IsAuditDue (status.Refused line why) (refusal_line line why)) told (λ c same. (ap (status.Refused line) same, ap (refusal_line line) same)); written = appends })
refused-audits before after answer line why told (FrontTold is rises part) =
    subst (λ a. Audits a before after) (sym is)
    (record { rises = rises; written = bad-as before.left line why (FrontOfAudit before.written after.written) told (λ c same. record { answer = status.Refused line why; text = refusal_line line why; due = (ap (status.Refused line) same, ap (refusal_line line) same); front = part }) })
refused-audits before after answer line why told (NotTold is keeps) = subst (λ a. Audits a before after) (sym is) keeps

-- there were too many bytes
over-as : (left : Option (List ℕ)) (taken : ℕ) → AuditBytes left (RefusesReading (refusal.TooLong taken)) → AuditBytes left (λ r. r ≡ TooManyAuditBytes)
over-as None taken told = tt
over-as (Some bytes) taken told = told.0

-- no input was read
pub audits-unread : (before after : Ends) (answer : Status) (why_not : ReadRefusal) → AuditBytes before.left (RefusesReading why_not)
    → (why_not ≡ refusal.ReadFault → FaultsRise before.read_faults after.read_faults) → (why_not ≡ refusal.ReadFault → LetsAuditPass MOST_BYTES before.left after.left)
    → TellsWhyUnread why_not answer before.written after.written before.write_faults after.write_faults → Audits answer before after
audits-unread before after answer refusal.Memory told rises passing tells = subst (λ a. Audits a before after) (sym tells.0) tells.1
audits-unread before after answer refusal.ReadFault told rises passing tells =
    subst (λ a. Audits a before after) (sym tells.0) (record { passing = passing refl; rises = rises refl; written = tells.1 })
audits-unread before after answer (refusal.TooLong taken) told rises passing tells =
    subst (λ a. Audits a before after) (sym tells.0) (record { over = over-as before.left taken told; written = tells.1 })
audits-unread before after answer (refusal.Refused line why) told rises passing tells = refused-audits before after answer line why told tells
