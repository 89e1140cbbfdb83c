-- What is due for the bytes by a race is one status, and an answer without a fault is due for them.
use Rattle.std.proofs.Common.{◌≡◌, ◌⊎◌, inl, inr, refl, ℕ, Bool, List, [], Option, Some, ap, subst, sym, ◌∙◌}
use Rattle.scenario_reader.specs.Reading.{Reading, PlanRead, BadLine, TooManyBytes, reading}
use Rattle.scenario_reader.specs.ReadSteps.{RefusesLine, scenarios}
use Rattle.scenario_reader.specs.Words.{cause_of}
use Rattle.scenario_reader.specs.declared.cause.Cause.TheVariants as cause
use Rattle.scenario_reader.specs.declared.cause.LineCause.{LineCause}
use Rattle.scenario_reader.specs.declared.cause.LineCause.TheVariants as line
use Rattle.scenario_reader.specs.declared.reader.TheConstants.{MOST_BYTES}
use Rattle.shared_network.specs.declared.closing.Closed.{Closed}
use Rattle.tenet_app.specs.Playing.{Ends, refusal_line, MeetsNoFault}
use Rattle.tenet_app.specs.Racing.{race_text, IsDueForRace, RacesDone, Races, DueForRace, RacesAreDue}
use Rattle.tenet_app.specs.declared.status.Status.{Status}
use Rattle.tenet_app.specs.declared.status.Status.TheVariants as status
use Rattle.tenet_app.proofs.OneRace.{one-text}
use Rattle.tenet_app.proofs.PlayDue.{at-bytes}

-- ---- one status

one-due : (packets : Bool) (r : Reading) (answer other : Status) (text text_other : List ℕ) → IsDueForRace packets answer text r → IsDueForRace packets other text_other r → answer ≡ other
one-due packets (PlanRead parts schedule) answer other text text_other one two = one.0 ∙ sym two.0
one-due packets (BadLine line why) answer other text text_other one two = one.0 ∙ sym two.0
one-due packets TooManyBytes answer other text text_other one two = one.0 ∙ sym two.0

-- ---- an answer without a fault

due-done : (packets : Bool) (before after : Ends) (raced : Option Closed) (bytes : List ℕ) → before.left ≡ Some bytes → RacesDone packets raced before after → DueForRace packets status.Done bytes
due-done packets before after raced bytes is races =
    let read : reading MOST_BYTES bytes ≡ PlanRead races.parts races.unused = at-bytes before.left bytes (λ r. r ≡ PlanRead races.parts races.unused) is races.read in
    let text = race_text races.parts races.schedule.items races.entries packets in
    record { text = text; due = subst (IsDueForRace packets status.Done text) (sym read) (refl, record { closed = races.closed; schedule = races.schedule; entries = races.entries; race = races.race; is = refl }) }

answers-due : (packets : Bool) (before after : Ends) (answer : Status) (raced : Option Closed) (bytes : List ℕ) → before.left ≡ Some bytes → MeetsNoFault before after → Races packets answer raced before after → (answer ≡ status.Memory) ⊎ DueForRace packets answer bytes
answers-due packets before after status.Done raced bytes is none races = inr (due-done packets before after raced bytes is races)
answers-due packets before after status.Memory raced bytes is none races = inl refl
answers-due packets before after status.Words raced bytes is none races = absurd races
answers-due packets before after status.ReadFault raced bytes is none races = absurd (none.read races.rises)
answers-due packets before after status.WriteFault raced bytes is none races = absurd (none.write races.rises)
answers-due packets before after (status.Refused line told) raced bytes is none races =
    let bad = at-bytes before.left bytes (RefusesLine scenarios line told) is races.due in
    inr (record { text = refusal_line line told; due = subst (IsDueForRace packets (status.Refused line told) (refusal_line line told)) (sym bad.is) (ap (status.Refused line) bad.same, ap (refusal_line line) bad.same) })
answers-due packets before after status.TooLong raced bytes is none races =
    let over : reading MOST_BYTES bytes ≡ TooManyBytes = at-bytes before.left bytes (λ r. r ≡ TooManyBytes) is races.over in
    inr (record { text = []; due = subst (IsDueForRace packets status.TooLong []) (sym over) (refl, refl) })

-- ---- no missing step

-- no line is refused for a missing step
of-no-line : (why : LineCause) → cause.Step ≡ cause_of why → ⊥
of-no-line line.Header is = cc
of-no-line other is = cc

none-missing : (packets : Bool) (r : Reading) (line : ℕ) (text : List ℕ) → IsDueForRace packets (status.Refused line cause.Step) text r → ⊥
none-missing packets (PlanRead parts schedule) line text due = (let is = due.0 in cc)
none-missing packets (BadLine at why) line text due = (let is = due.0 in of-no-line why cc)
none-missing packets TooManyBytes line text due = (let is = due.0 in cc)

pub races-are-due : RacesAreDue
races-are-due = record { answers = answers-due; one = one-due; no_step = none-missing; one_text = one-text }
