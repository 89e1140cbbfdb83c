-- What is written for a plan or for a refused line, and what the status then says.
use Rattle.std.proofs.Common.{◌≡◌, inl, inr, refl, ℕ, Bool, List, take, drop, Option, Some, None, Ok, Err, subst, sym, ◌∙◌, ap, reverse}
use Rattle.std.proofs.lemmas.List.{reverse-reverse, take-append-drop}
use Rattle.std.specs.Io.KnownBytes.{Appends, IsAtEnd}
use Rattle.byte_ends.specs.Writing.{WritesFront}
use Rattle.call_script.specs.Parts.{PlanParts}
use Rattle.call_script.specs.Plans.{IsPlan}
use Rattle.call_script.specs.Tasks.{network_of}
use Rattle.call_script.specs.declared.schedule.Schedule.{Schedule}
use Rattle.run_engine.specs.schedules.Schedules.{IsPlayed, AsksTooMuch, IsFaultOf}
use Rattle.run_engine.specs.declared.playing.PlayFault.{PlayFault}
use Rattle.run_engine.specs.declared.playing.PlayFault.TheVariants.{Step}
use Rattle.interleave_core.specs.channels.Laws.{IsGuaranteedRun}
use Rattle.run_record.specs.declared.done.Done.{Done}
use Rattle.tenet_app.specs.Playing.{Ends, refusal_line, Reports, Misses, IsDueFor, BytesComeTo, FrontOfDue, FrontOfPlan, AnswersPlan, WritesReport, ReportWritten, FrontWritten, LacksMemory, TellsRefusal, RefusalTold, FrontTold, NotTold, TellsWhyUnread, Plays}
use Rattle.scenario_reader.specs.Reading.{Reading, PlanRead, BadLine, TooManyBytes, LetsPass}
use Rattle.scenario_reader.specs.ReadSteps.{TellsReading}
use Rattle.byte_ends.specs.Faults.{FaultsRise}
use Rattle.byte_ends.specs.Gathering.{WritesPart}
use Rattle.channel_report.specs.Report.{report_of}
use Rattle.scenario_reader.specs.declared.reader.ReadRefusal.{ReadRefusal}
use Rattle.scenario_reader.specs.declared.reader.ReadRefusal.TheVariants as refusal
use Rattle.scenario_reader.specs.declared.reader.TheConstants.{MOST_BYTES}
use Rattle.scenario_reader.specs.declared.cause.Cause.{Cause}
use Rattle.scenario_reader.specs.declared.cause.Cause.TheVariants as cause
use Rattle.scenario_reader.specs.declared.cause.LineCause.{LineCause}
use Rattle.scenario_reader.specs.Words.{cause_of}
use Rattle.tenet_app.specs.declared.status.Status.{Status}
use Rattle.tenet_app.specs.declared.status.Status.TheVariants as status

-- ---- a refused line

-- a prefix of a piece is some of it
pub part-of-front : (written written' : Option (List ℕ)) (piece text : List ℕ) → piece ≡ text → WritesFront written written' piece → WritesPart written written' text
part-of-front written written' piece text is front = record { front = take front.count piece; rest = drop front.count piece; appends = front.appends; joined = take-append-drop front.count piece ∙ is }

-- ---- a plan

pub of-report : (packets : Bool) (parts : PlanParts) (schedule : Schedule) (entries : List Done) (answer : Status) (written written' : Option (List ℕ)) (faults faults' : ℕ) → IsPlayed (network_of parts) schedule (reverse entries) → IsGuaranteedRun parts (reverse entries)
    → WritesReport answer (report_of parts entries packets) written written' faults faults' → AnswersPlan packets parts schedule answer written written' faults faults'
of-report packets parts schedule entries answer written written' faults faults' played guaranteed (ReportWritten is appends) =
    subst (λ a. AnswersPlan packets parts schedule a written written' faults faults') (sym is)
    (record { run = reverse entries; played = played; guaranteed = guaranteed; appends = subst (λ es. Appends written written' (report_of parts es packets)) (sym (reverse-reverse entries)) appends })
of-report packets parts schedule entries answer written written' faults faults' played guaranteed (FrontWritten is rises part) =
    subst (λ a. AnswersPlan packets parts schedule a written written' faults faults') (sym is)
    (rises, record { answer = status.Done; text = report_of parts entries packets; due = Reports (reverse entries) played refl (ap (λ es. report_of parts es packets) (sym (reverse-reverse entries))); front = part })
of-report packets parts schedule entries answer written written' faults faults' played guaranteed (LacksMemory is part) =
    subst (λ a. AnswersPlan packets parts schedule a written written' faults faults') (sym is)
    (inr (record { answer = status.Done; text = report_of parts entries packets; due = Reports (reverse entries) played refl (ap (λ es. report_of parts es packets) (sym (reverse-reverse entries))); front = part }))

missing-answers : (packets : Bool) (parts : PlanParts) (schedule : Schedule) (line made : ℕ) (answer : Status) (written written' : Option (List ℕ)) (faults faults' : ℕ) → AsksTooMuch (network_of parts) schedule line made → TellsRefusal line cause.Step answer written written' faults faults'
    → AnswersPlan packets parts schedule answer written written' faults faults'
missing-answers packets parts schedule line made answer written written' faults faults' missing (RefusalTold is appends) =
    subst (λ a. AnswersPlan packets parts schedule a written written' faults faults') (sym is) (record { step = refl; made = made; missing = missing; appends = appends })
missing-answers packets parts schedule line made answer written written' faults faults' missing (FrontTold is rises part) =
    subst (λ a. AnswersPlan packets parts schedule a written written' faults faults') (sym is)
    (rises, record { answer = status.Refused line cause.Step; text = refusal_line line cause.Step; due = Misses line made missing refl refl; front = part })
missing-answers packets parts schedule line made answer written written' faults faults' missing (NotTold is keeps) = subst (λ a. AnswersPlan packets parts schedule a written written' faults faults') (sym is) (inl keeps)

pub of-missing : (packets : Bool) (parts : PlanParts) (schedule : Schedule) (fault : PlayFault) (line made : ℕ) (answer : Status) (written written' : Option (List ℕ)) (faults faults' : ℕ) → fault ≡ Step line made → IsFaultOf (network_of parts) schedule fault → TellsRefusal line cause.Step answer written written' faults faults'
    → AnswersPlan packets parts schedule answer written written' faults faults'
of-missing packets parts schedule fault line made answer written written' faults faults' is right tells = missing-answers packets parts schedule line made answer written written' faults faults' (subst (IsFaultOf (network_of parts) schedule) is right) tells

-- ---- what the bytes come to

pub read-as : (left : Option (List ℕ)) (both : PlanParts × Schedule) → TellsReading (Ok both) left → BytesComeTo left (λ r. r ≡ PlanRead both.0 both.1)
read-as None both told = tt
read-as (Some bytes) both told = told

pub due-as : (left : Option (List ℕ)) (parts : PlanParts) (schedule : Schedule) (P : Reading → Type 0) → BytesComeTo left (λ r. r ≡ PlanRead parts schedule) → P (PlanRead parts schedule) → BytesComeTo left P
due-as None parts schedule P read due = tt
due-as (Some bytes) parts schedule P read due = subst P (sym read) due

front-as : (packets : Bool) (left : Option (List ℕ)) (parts : PlanParts) (schedule : Schedule) (written written' : Option (List ℕ)) → BytesComeTo left (λ r. r ≡ PlanRead parts schedule) → FrontOfPlan packets parts schedule written written' → BytesComeTo left (FrontOfDue packets written written')
front-as packets left parts schedule written written' read part =
    due-as left parts schedule (FrontOfDue packets written written') read (record { answer = part.answer; text = part.text; due = part.due; front = part.front })

-- a plan and its schedule were read
pub plays-plan : (packets : Bool) (before after : Ends) (answer : Status) (both : PlanParts × Schedule) → IsPlan both.0 → TellsReading (Ok both) before.left → IsAtEnd after.left → AnswersPlan packets both.0 both.1 answer before.written after.written before.write_faults after.write_faults → Plays packets answer before after
plays-plan packets before after status.Done both plan told ended answers = record {
  parts = both.0;
  schedule = both.1;
  run = answers.run;
  plan = plan;
  read = read-as before.left both told;
  ended = ended;
  played = answers.played;
  guaranteed = answers.guaranteed;
  written = answers.appends;
}
plays-plan packets before after status.Memory both plan told ended (inl keeps) = inl keeps
plays-plan packets before after status.Memory both plan told ended (inr part) = inr (front-as packets before.left both.0 both.1 before.written after.written (read-as before.left both told) part)
plays-plan packets before after status.Words both plan told ended answers = absurd answers
plays-plan packets before after status.ReadFault both plan told ended answers = absurd answers
plays-plan packets before after status.WriteFault both plan told ended answers = record { rises = answers.0; written = front-as packets before.left both.0 both.1 before.written after.written (read-as before.left both told) answers.1 }
plays-plan packets before after (status.Refused line why) both plan told ended answers = record {
  due = due-as before.left both.0 both.1 (IsDueFor packets (status.Refused line why) (refusal_line line why)) (read-as before.left both told)
      (Misses line answers.made answers.missing (ap (status.Refused line) answers.step) (ap (refusal_line line) answers.step));
  written = subst (λ w. Appends before.written after.written (refusal_line line w)) (sym answers.step) answers.appends;
}
plays-plan packets before after status.TooLong both plan told ended answers = absurd answers

-- a line was refused
bad-as : (left : Option (List ℕ)) (line : ℕ) (told : Cause) (P : Reading → Type 0) → TellsReading (Err (refusal.Refused line told)) left → ((why : LineCause) → told ≡ cause_of why → P (BadLine line why)) → BytesComeTo left P
bad-as None line told P refused due = tt
bad-as (Some bytes) line told P refused due = subst P (sym refused.is) (due refused.why refused.same)

-- there were too many bytes
pub over-as : (left : Option (List ℕ)) (taken : ℕ) → TellsReading (Err (refusal.TooLong taken)) left → BytesComeTo left (λ r. r ≡ TooManyBytes)
over-as None taken told = tt
over-as (Some bytes) taken told = told.0

refused-plays : (packets : Bool) (before after : Ends) (answer : Status) (line : ℕ) (why : Cause) → TellsReading (Err (refusal.Refused line why)) before.left → TellsRefusal line why answer before.written after.written before.write_faults after.write_faults → Plays packets answer before after
refused-plays packets before after answer line why told (RefusalTold is appends) =
    subst (λ a. Plays packets a before after) (sym is)
    (record { due = bad-as before.left line why (IsDueFor packets (status.Refused line why) (refusal_line line why)) told (λ c same. (ap (status.Refused line) same, ap (refusal_line line) same)); written = appends })
refused-plays packets before after answer line why told (FrontTold is rises part) =
    subst (λ a. Plays packets a before after) (sym is)
    (record { rises = rises; written = bad-as before.left line why (FrontOfDue packets before.written after.written) told (λ c same. record { answer = status.Refused line why; text = refusal_line line why; due = (ap (status.Refused line) same, ap (refusal_line line) same); front = part }) })
refused-plays packets before after answer line why told (NotTold is keeps) = subst (λ a. Plays packets a before after) (sym is) (inl keeps)

-- no plan was read
pub plays-unread : (packets : Bool) (before after : Ends) (answer : Status) (why_not : ReadRefusal) → TellsReading (Err why_not) before.left
    → (why_not ≡ refusal.ReadFault → FaultsRise before.read_faults after.read_faults) → (why_not ≡ refusal.ReadFault → LetsPass MOST_BYTES before.left after.left)
    → TellsWhyUnread why_not answer before.written after.written before.write_faults after.write_faults → Plays packets answer before after
plays-unread packets before after answer refusal.Memory told rises passing tells = subst (λ a. Plays packets a before after) (sym tells.0) (inl tells.1)
plays-unread packets before after answer refusal.ReadFault told rises passing tells =
    subst (λ a. Plays packets a before after) (sym tells.0) (record { passing = passing refl; rises = rises refl; written = tells.1 })
plays-unread packets before after answer (refusal.TooLong taken) told rises passing tells =
    subst (λ a. Plays packets a before after) (sym tells.0) (record { over = over-as before.left taken told; written = tells.1 })
plays-unread packets before after answer (refusal.Refused line why) told rises passing tells = refused-plays packets before after answer line why told tells
