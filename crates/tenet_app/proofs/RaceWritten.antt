-- What is written for a race, and what its status then says.
use Rattle.std.proofs.Common.{◌≡◌, inl, inr, refl, ℕ, Bool, List, Option, Some, None, Err, ap, subst, sym}
use Rattle.std.specs.Io.KnownBytes.{IsAtEnd}
use Rattle.byte_ends.specs.Faults.{FaultsRise}
use Rattle.byte_ends.specs.Gathering.{WritesPart}
use Rattle.call_script.specs.Parts.{PlanParts}
use Rattle.call_script.specs.Plans.{IsPlan}
use Rattle.call_script.specs.declared.schedule.Schedule.{Schedule}
use Rattle.run_record.specs.declared.done.Done.{Done}
use Rattle.scenario_reader.specs.Reading.{PlanRead, LetsPass}
use Rattle.scenario_reader.specs.ReadSteps.{TellsReading}
use Rattle.scenario_reader.specs.declared.cause.Cause.{Cause}
use Rattle.scenario_reader.specs.declared.reader.ReadRefusal.{ReadRefusal}
use Rattle.scenario_reader.specs.declared.reader.ReadRefusal.TheVariants as refusal
use Rattle.scenario_reader.specs.declared.reader.TheConstants.{MOST_BYTES}
use Rattle.shared_network.specs.declared.closing.Closed.{Closed}
use Rattle.tenet_app.specs.Playing.{Ends, refusal_line, BytesComeTo, TellsRefusal, RefusalTold, FrontTold, NotTold, TellsWhyUnread}
use Rattle.tenet_app.specs.Racing.{IsRaceOf, race_text, IsDueForRace, FrontOfRace, FrontOfAnyRace, Races, FrontOfRefusal, StopsReading, FrontOfPlansRace, AnswersRace}
use Rattle.tenet_app.specs.declared.status.Status.{Status}
use Rattle.tenet_app.specs.declared.status.Status.TheVariants as status
use Rattle.tenet_app.proofs.WrittenAnswers.{due-as, over-as}

-- ---- a race that was told

-- a prefix of its text was written
pub front-of-race : (packets : Bool) (parts : PlanParts) (closed : Closed) (schedule : Schedule) (entries : List Done) (written written' : Option (List ℕ)) → IsRaceOf parts closed schedule entries → WritesPart written written' (race_text parts schedule.items entries packets)
    → FrontOfPlansRace packets parts written written'
front-of-race packets parts closed schedule entries written written' race part =
    record { text = race_text parts schedule.items entries packets; due = record { closed = closed; schedule = schedule; entries = entries; race = race; is = refl }; front = part }

-- ---- the status

due-front : (packets : Bool) (parts : PlanParts) (unused : Schedule) (written written' : Option (List ℕ)) → FrontOfPlansRace packets parts written written' → FrontOfRace packets status.Done written written' (PlanRead parts unused)
due-front packets parts unused written written' front = record { text = front.text; due = (refl, front.due); front = front.front }

any-front : (packets : Bool) (parts : PlanParts) (unused : Schedule) (written written' : Option (List ℕ)) → FrontOfPlansRace packets parts written written' → FrontOfAnyRace packets written written' (PlanRead parts unused)
any-front packets parts unused written written' front = record { answer = status.Done; front = due-front packets parts unused written written' front }

-- a plan was read
pub plan-raced : (packets : Bool) (before after : Ends) (answer : Status) (raced : Option Closed) (parts : PlanParts) (unused : Schedule) → IsPlan parts → BytesComeTo before.left (λ r. r ≡ PlanRead parts unused) → IsAtEnd after.left
    → AnswersRace packets parts answer raced before.written after.written before.write_faults after.write_faults → Races packets answer raced before after
plan-raced packets before after status.Done raced parts unused plan read ended answers = record {
  parts = parts;
  unused = unused;
  plan = plan;
  read = read;
  ended = ended;
  closed = answers.closed;
  handed = answers.handed;
  schedule = answers.schedule;
  entries = answers.entries;
  race = answers.race;
  written = answers.appends;
}
plan-raced packets before after status.Memory raced parts unused plan read ended (inl keeps) = inl keeps
plan-raced packets before after status.Memory raced parts unused plan read ended (inr front) =
    inr (due-as before.left parts unused (FrontOfRace packets status.Done before.written after.written) read (due-front packets parts unused before.written after.written front))
plan-raced packets before after status.Words raced parts unused plan read ended answers = absurd answers
plan-raced packets before after status.ReadFault raced parts unused plan read ended answers = absurd answers
plan-raced packets before after status.WriteFault raced parts unused plan read ended answers =
    record { rises = answers.0; written = due-as before.left parts unused (FrontOfAnyRace packets before.written after.written) read (any-front packets parts unused before.written after.written answers.1) }
plan-raced packets before after (status.Refused line told) raced parts unused plan read ended answers = absurd answers
plan-raced packets before after status.TooLong raced parts unused plan read ended answers = absurd answers

-- a prefix of a refusal is one of the text due
front-of-refusal : (packets : Bool) (left written written' : Option (List ℕ)) → BytesComeTo left (FrontOfRefusal written written') → BytesComeTo left (FrontOfAnyRace packets written written')
front-of-refusal packets None written written' come = tt
front-of-refusal packets (Some bytes) written written' come =
    record { answer = status.Refused come.line come.why; front = record { text = refusal_line come.line come.why; due = subst (λ r. IsDueForRace packets (status.Refused come.line come.why) (refusal_line come.line come.why) r) (sym come.bad.is) (ap (status.Refused come.line) come.bad.same, ap (refusal_line come.line) come.bad.same); front = come.front } }

-- no plan was read
pub none-raced : (packets : Bool) (before after : Ends) (answer : Status) → StopsReading answer before after → Races packets answer None before after
none-raced packets before after status.Done stops = absurd stops
none-raced packets before after status.Memory stops = inl stops
none-raced packets before after status.Words stops = absurd stops
none-raced packets before after status.ReadFault stops = stops
none-raced packets before after status.WriteFault stops = record { rises = stops.0; written = front-of-refusal packets before.left before.written after.written stops.1 }
none-raced packets before after (status.Refused line told) stops = stops
none-raced packets before after status.TooLong stops = stops

-- ---- why no plan was read

-- a line was refused
refused-stops : (before after : Ends) (answer : Status) (line : ℕ) (why : Cause) → TellsReading (Err (refusal.Refused line why)) before.left → TellsRefusal line why answer before.written after.written before.write_faults after.write_faults → StopsReading answer before after
refused-stops before after answer line why told (RefusalTold is appends) = subst (λ a. StopsReading a before after) (sym is) (record { due = told; written = appends })
refused-stops before after answer line why told (FrontTold is rises part) = subst (λ a. StopsReading a before after) (sym is) (rises, front-told before.left told part) where
  front-told : (left : Option (List ℕ)) → TellsReading (Err (refusal.Refused line why)) left → WritesPart before.written after.written (refusal_line line why) → BytesComeTo left (FrontOfRefusal before.written after.written)
  front-told None told part = tt
  front-told (Some bytes) told part = record { line = line; why = why; bad = told; front = part }
refused-stops before after answer line why told (NotTold is keeps) = subst (λ a. StopsReading a before after) (sym is) keeps

pub unread-stops : (before after : Ends) (answer : Status) (why_not : ReadRefusal) → TellsReading (Err why_not) before.left
    → (why_not ≡ refusal.ReadFault → FaultsRise before.read_faults after.read_faults) → (why_not ≡ refusal.ReadFault → LetsPass MOST_BYTES before.left after.left)
    → TellsWhyUnread why_not answer before.written after.written before.write_faults after.write_faults → StopsReading answer before after
unread-stops before after answer refusal.Memory told rises passing tells = subst (λ a. StopsReading a before after) (sym tells.0) tells.1
unread-stops before after answer refusal.ReadFault told rises passing tells =
    subst (λ a. StopsReading a before after) (sym tells.0) (record { passing = passing refl; rises = rises refl; written = tells.1 })
unread-stops before after answer (refusal.TooLong taken) told rises passing tells =
    subst (λ a. StopsReading a before after) (sym tells.0) (record { over = over-as before.left taken told; written = tells.1 })
unread-stops before after answer (refusal.Refused line why) told rises passing tells = refused-stops before after answer line why told tells
