-- How a text of lines, a scenario or an audit's input, is read line by line: whatever line was read last, what the bytes ahead come
-- to, after what was read so far, is the same. So the answer is a function of all bytes, where the source makes them known.
use Rattle.std.specs.Prelude.{◌≡◌, ℕ, suc, ◌+◌, ◌≤◌, ◌++◌, length, Bool, true, false, List, [], ◌∷◌, Option, Some, None, IfSome, Result, Ok, Err, ⊤}
use Rattle.std.specs.Io.KnownBytes.{Consumes, IsAtEnd}
use Rattle.byte_ends.specs.Cutting.{Cutting, IsCutting, IsOf, allowance}
use Rattle.byte_ends.specs.WholeLines.{Outlook, all_given, cut_short, too_long, outlook, whole_lines}
use Rattle.byte_ends.specs.Faults.{FaultsRise}
use Rattle.call_script.specs.Parts.{PlanParts}
use Rattle.call_script.specs.declared.schedule.Schedule.{Schedule}
use Rattle.line_forms.specs.declared.value.Values.{Values}
use Rattle.scenario_reader.specs.Causes.{Rule, unless}
use Rattle.scenario_reader.specs.Drafts.{Said, is_complete, nothing_said}
use Rattle.scenario_reader.specs.Known.{FitsOne, names_said}
use Rattle.scenario_reader.specs.Reading.{Reading, PlanRead, BadLine, TooManyBytes, reading_on, reading, are_let_pass, said_line}
use Rattle.scenario_reader.specs.Words.{cause_of}
use Rattle.scenario_reader.specs.line.Table.{forms_of, says}
use Rattle.scenario_reader.specs.declared.cause.Cause.{Cause}
use Rattle.scenario_reader.specs.declared.cause.LineCause.{LineCause}
use Rattle.scenario_reader.specs.declared.cause.LineCause.TheVariants as cause
use Rattle.scenario_reader.specs.declared.cause.LineFault.{LineFault}
use Rattle.scenario_reader.specs.declared.cause.LineFault.TheVariants as fault
use Rattle.scenario_reader.specs.declared.item.Item.{Item}
use Rattle.scenario_reader.specs.declared.item.Item.TheVariants as item
use Rattle.scenario_reader.specs.declared.judge.LineKind.{LineKind}
use Rattle.scenario_reader.specs.declared.judge.LineKind.TheVariants as kind
use Rattle.scenario_reader.specs.declared.reader.ReadRefusal.{ReadRefusal}
use Rattle.scenario_reader.specs.declared.reader.ReadRefusal.TheVariants as refusal
use Rattle.scenario_reader.specs.declared.reader.TheConstants.{MOST_BYTES}

-- a language of lines: what was said before the first line; what was said once a line was, too, or its cause; why a text may not end
-- after that, if it may not; what is to come of bytes after so many lines that say this; and what a refused line and too many bytes come to
pub record Language (Words Whole : Type 0) : Type 0 where
  pub first : Words
  pub says : Words → ℕ → List ℕ → Result Words LineCause
  pub ends : Words → Rule
  pub on : ℕ → Outlook → Words → Whole
  pub refused : ℕ → LineCause → Whole
  pub over : Whole

-- what a line that was judged and the bytes after it come to, after this many lines
abbrev pub judged_on : {W R : Type 0} → Language W R → Result W LineCause → ℕ → Outlook → R
judged_on k (Ok after) count rest = k.on count rest after
judged_on k (Err cause) count rest = k.refused count cause

-- the first line is judged, and then what stands after it
pub record IsByLine {W R : Type 0} (k : Language W R) : Type 0 where
  pub next : (count : ℕ) (line : List ℕ) (rest : Outlook) (said : W) → k.on count (record { lines = line ∷ rest.lines; ending = rest.ending }) said ≡ judged_on k (k.says said (suc count) line) (suc count) rest
  pub cut : (count : ℕ) (said : W) → k.on count (record { lines = []; ending = cut_short }) said ≡ k.refused (suc count) cause.Cut
  pub end : (count : ℕ) (said : W) (why : LineCause) → k.ends said ≡ Some why → k.on count (record { lines = []; ending = all_given }) said ≡ k.refused (suc count) why
  pub over : (count : ℕ) (said : W) → k.on count (record { lines = []; ending = too_long }) said ≡ k.over

-- a scenario ends with the line that a plan needs last, or with those after it
abbrev pub end_rule : Said → Rule
end_rule said = unless (is_complete said) cause.End

-- that of scenarios
abbrev pub scenarios : Language Said Reading
scenarios = record { first = nothing_said; says = said_line; ends = end_rule; on = reading_on; refused = BadLine; over = TooManyBytes }

-- what the bytes ahead come to after what was said, where the source tells those that it has left
abbrev pub ahead : {W R : Type 0} → Language W R → Cutting → W → Option (List ℕ) → Option R
ahead k t said None = None
ahead k t said (Some left) = Some (k.on t.number (outlook (allowance t) (t.pending ++ left)) said)

-- what was read after a line is what judging it says, but where memory ran out
abbrev pub Adds : {X W : Type 0} → Result X LineFault → W → Result W LineCause → Type 0
Adds (Ok _) after judged = judged ≡ Ok after
Adds (Err (fault.Refused cause)) after judged = judged ≡ Err cause
Adds (Err fault.Memory) after judged = Unit {0}

-- the line doesn't pass, and this is told of its cause
pub record RefusedAs {W : Type 0} (told : Cause) (judged : Result W LineCause) : Type 0 where
  pub why : LineCause
  pub same : told ≡ cause_of why
  pub is : judged ≡ Err why

-- the same of the line of this number
abbrev pub AddsLine : {X W : Type 0} → Result X ReadRefusal → ℕ → W → Result W LineCause → Type 0
AddsLine (Ok _) number after judged = judged ≡ Ok after
AddsLine (Err (refusal.Refused at told)) number after judged = (at ≡ number) × RefusedAs told judged
AddsLine (Err refusal.Memory) number after judged = ⊤
AddsLine (Err refusal.ReadFault) number after judged = ⊥
AddsLine (Err (refusal.TooLong _)) number after judged = ⊥

-- bytes were taken, and what they say was added: whatever stands after them, the lines that were ahead pass exactly where those that
-- are ahead now do
pub record PassesOn {W R : Type 0} (k : Language W R) (s t : Cutting) (said after : W) (left left' : Option (List ℕ)) : Type 0 where
  pub bytes : List ℕ
  pub from_source : Consumes left left' bytes
  pub counted : t.taken ≡ s.taken + length bytes
  pub same : (more : List ℕ) → are_let_pass k.says s.number (whole_lines (allowance s) (s.pending ++ (bytes ++ more))) said ≡ are_let_pass k.says t.number (whole_lines (allowance t) (t.pending ++ more)) after

-- bytes were taken, no more in all than may be, and no whole line that is refused is ahead in them
pub record StopsPassing {W R : Type 0} (k : Language W R) (s : Cutting) (said : W) (left left' : Option (List ℕ)) : Type 0 where
  pub bytes : List ℕ
  pub from_source : Consumes left left' bytes
  pub few : s.taken + length bytes ≤ s.most
  pub passing : are_let_pass k.says s.number (whole_lines (allowance s) (s.pending ++ bytes)) said ≡ true

-- the source failed where neither a whole line that is refused nor a byte too many had been taken from it
pub record FailsWhileReading {W R : Type 0} (k : Language W R) (s : Cutting) (said : W) (left left' : Option (List ℕ)) (faults faults' : ℕ) : Type 0 where
  pub rises : FaultsRise faults faults'
  pub stops : StopsPassing k s said left left'

-- one byte too many was taken, `taken` in all, and no whole line is left among the others
pub record TakesOneTooMany {W R : Type 0} (k : Language W R) (taken : ℕ) (s : Cutting) (said : W) (left left' : Option (List ℕ)) : Type 0 where
  pub over : IfSome (ahead k s said left) (λ r. r ≡ k.over)
  pub one_more : taken ≡ s.most + 1
  pub bytes : List ℕ
  pub from_source : Consumes left left' bytes
  pub counted : taken ≡ s.taken + length bytes

-- `taken` bytes were taken from a source in all, one more than may be read
pub record TakesTooMany (taken most : ℕ) (left left' : Option (List ℕ)) : Type 0 where
  pub bytes : List ℕ
  pub from_source : Consumes left left' bytes
  pub counted : length bytes ≡ taken
  pub one_more : taken ≡ most + 1

-- one more line was read and added
pub record ReadsOn {W R : Type 0} (k : Language W R) (s t : Cutting) (said after : W) (left left' : Option (List ℕ)) : Type 0 where
  pub number : t.number ≡ s.number + 1
  pub most : t.most ≡ s.most
  pub cutting : IsCutting t
  pub source : IsOf t left'
  pub passes : PassesOn k s t said after left left'
  pub same : IfSome (ahead k s said left) (λ r. ahead k t after left' ≡ Some r)

-- the input was at its end
pub record ComesToEnd {W R : Type 0} (k : Language W R) (s t : Cutting) (said after : W) (left left' : Option (List ℕ)) : Type 0 where
  pub number : t.number ≡ s.number
  pub same : after ≡ said
  pub nothing_left : IsAtEnd left'
  pub ends : IfSome (ahead k s said left) (λ r. r ≡ k.on s.number (record { lines = []; ending = all_given }) said)

-- a text comes to this line, which is refused, and this is told of its cause
pub record RefusesLine {W R : Type 0} (k : Language W R) (line : ℕ) (told : Cause) (r : R) : Type 0 where
  pub why : LineCause
  pub same : told ≡ cause_of why
  pub is : r ≡ k.refused line why

-- what reading one more line answers: whether there was one, or why the input is refused
abbrev pub ReadsLine : {W R : Type 0} → Language W R → Result Bool ReadRefusal → Cutting → Cutting → W → W → Option (List ℕ) → Option (List ℕ) → ℕ → ℕ → Type 0
ReadsLine k (Ok true) s t said after left left' faults faults' = ReadsOn k s t said after left left'
ReadsLine k (Ok false) s t said after left left' faults faults' = ComesToEnd k s t said after left left'
ReadsLine k (Err refusal.Memory) s t said after left left' faults faults' = ⊤
ReadsLine k (Err refusal.ReadFault) s t said after left left' faults faults' = FailsWhileReading k s said left left' faults faults'
ReadsLine k (Err (refusal.TooLong taken)) s t said after left left' faults faults' = TakesOneTooMany k taken s said left left'
ReadsLine k (Err (refusal.Refused line told)) s t said after left left' faults faults' = IfSome (ahead k s said left) (RefusesLine k line told)

-- what all bytes come to
abbrev pub whole : {W R : Type 0} → Language W R → List ℕ → R
whole k bytes = k.on 0 (outlook MOST_BYTES bytes) k.first

-- what is ahead comes to what all bytes come to, where the source told them
abbrev pub Foretells : {W R : Type 0} → Language W R → Option (List ℕ) → Option R → Type 0
Foretells k None now = ⊤
Foretells k (Some bytes) now = now ≡ Some (whole k bytes)

-- a refusal is that of the reading
abbrev pub Refuses : {W R : Type 0} → Language W R → ReadRefusal → R → Type 0
Refuses k (refusal.Refused line told) r = RefusesLine k line told r
Refuses k (refusal.TooLong taken) r = (r ≡ k.over) × (taken ≡ MOST_BYTES + 1)
Refuses k refusal.Memory r = ⊤
Refuses k refusal.ReadFault r = ⊤

-- the text was read to its end
pub record ReadsToEnd {W R : Type 0} (k : Language W R) (said : W) (r : R) : Type 0 where
  pub count : ℕ
  pub is : r ≡ k.on count (record { lines = []; ending = all_given }) said

-- where the source tells its bytes, what was read is what they come to
abbrev pub TellsLines : {W R : Type 0} → Language W R → Result (Unit {0}) ReadRefusal → W → Option (List ℕ) → Type 0
TellsLines k (Ok done) said left = IfSome left (λ bytes. ReadsToEnd k said (whole k bytes))
TellsLines k (Err why) said left = IfSome left (λ bytes. Refuses k why (whole k bytes))

-- what a reading of a scenario answers
abbrev pub AnswersReading : Result (PlanParts × Schedule) ReadRefusal → Reading → Type 0
AnswersReading (Ok read) r = r ≡ PlanRead read.0 read.1
AnswersReading (Err why) r = Refuses scenarios why r

-- where the source tells its bytes, the answer is that of the reading of them
abbrev pub TellsReading : Result (PlanParts × Schedule) ReadRefusal → Option (List ℕ) → Type 0
TellsReading answer left = IfSome left (λ bytes. AnswersReading answer (reading MOST_BYTES bytes))

-- ---- a line of a scenario, up to its values

-- what a line says that was read as this, where its values, if it has any, are these
abbrev pub said_on : LineKind → Said → ℕ → Values → Result Item LineCause
said_on kind.Nothing said number values = Ok item.Nothing
said_on (kind.Header version) said number values = Ok (item.Header version)
said_on (kind.Values keyword version) said number values = says keyword version said number values

-- its values fit one of its forms
abbrev pub FitsKind : LineKind → Said → Values → Type 0
FitsKind (kind.Values keyword version) said values = FitsOne (names_said said) (forms_of version keyword) values
FitsKind other said values = Unit {0}

-- what reading a line up to its values answers, whatever number it has, where its judge is this
abbrev pub ReadsAs : Result LineKind LineFault → (ℕ → Result Item LineCause) → Said → Values → Type 0
ReadsAs (Ok read) judged said values = ((number : ℕ) → judged number ≡ said_on read said number values) × FitsKind read said values
ReadsAs (Err (fault.Refused cause)) judged said values = (number : ℕ) → judged number ≡ Err cause
ReadsAs (Err fault.Memory) judged said values = Unit {0}
