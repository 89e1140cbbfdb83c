-- What is due for the bytes is one status and one text, and an answer without a fault is due for them.
use Rattle.std.proofs.Common.{◌≡◌, ◌⊎◌, inl, inr, refl, ℕ, Bool, List, [], Option, Some, subst, sym, ◌∙◌, ap, reverse}
use Rattle.call_script.specs.Parts.{PlanParts}
use Rattle.call_script.specs.Tasks.{network_of}
use Rattle.call_script.specs.declared.schedule.Schedule.{Schedule}
use Rattle.channel_report.specs.Report.{report_of}
use Rattle.run_engine.proofs.Schedules.ScheduleOutcome.{one-end}
use Rattle.scenario_reader.specs.Reading.{Reading, PlanRead, BadLine, TooManyBytes, reading}
use Rattle.scenario_reader.specs.declared.cause.Cause.TheVariants as cause
use Rattle.scenario_reader.specs.declared.reader.TheConstants.{MOST_BYTES}
use Rattle.tenet_app.specs.Playing.{Ends, refusal_line, DueOfPlan, Reports, Misses, IsDueFor, BytesComeTo, PlaysDone, Plays, MeetsNoFault, DueFor, BytesDetermine}
use Rattle.tenet_app.specs.declared.status.Status.{Status}
use Rattle.tenet_app.specs.declared.status.Status.TheVariants as status

-- ---- one status and one text

one-of-plan : (packets : Bool) (parts : PlanParts) (schedule : Schedule) (answer other : Status) (text text_other : List ℕ) → DueOfPlan packets parts schedule answer text → DueOfPlan packets parts schedule other text_other → (answer ≡ other) × (text ≡ text_other)
one-of-plan packets parts schedule answer other text text_other (Reports run played is told) (Reports again played_again is_other told_other) =
    (is ∙ sym is_other, told ∙ ap (λ r. report_of parts (reverse r) packets) (one-end.one_run (network_of parts) schedule run again played played_again) ∙ sym told_other)
one-of-plan packets parts schedule answer other text text_other (Reports run played is told) (Misses line made missing is_other told_other) = absurd (one-end.not_both (network_of parts) schedule run line made played missing)
one-of-plan packets parts schedule answer other text text_other (Misses line made missing is told) (Reports run played is_other told_other) = absurd (one-end.not_both (network_of parts) schedule run line made played missing)
one-of-plan packets parts schedule answer other text text_other (Misses line made missing is told) (Misses again made_again missing_again is_other told_other) =
    let same = one-end.one_line (network_of parts) schedule line made again made_again missing missing_again in
    (is ∙ ap (λ l. status.Refused l cause.Step) same.0 ∙ sym is_other, told ∙ ap (λ l. refusal_line l cause.Step) same.0 ∙ sym told_other)

one-due : (packets : Bool) (r : Reading) (answer other : Status) (text text_other : List ℕ) → IsDueFor packets answer text r → IsDueFor packets other text_other r → (answer ≡ other) × (text ≡ text_other)
one-due packets (PlanRead parts schedule) answer other text text_other one two = one-of-plan packets parts schedule answer other text text_other one two
one-due packets (BadLine line why) answer other text text_other one two = (one.0 ∙ sym two.0, one.1 ∙ sym two.1)
one-due packets TooManyBytes answer other text text_other one two = (one.0 ∙ sym two.0, one.1 ∙ sym two.1)

-- ---- an answer without a fault

pub at-bytes : (left : Option (List ℕ)) (bytes : List ℕ) (P : Reading → Type 0) → left ≡ Some bytes → BytesComeTo left P → P (reading MOST_BYTES bytes)
at-bytes left bytes P is come = subst (λ given. BytesComeTo given P) is come

due-done : (packets : Bool) (before after : Ends) (bytes : List ℕ) → before.left ≡ Some bytes → PlaysDone packets before after → DueFor packets status.Done bytes
due-done packets before after bytes is plays =
    let read : reading MOST_BYTES bytes ≡ PlanRead plays.parts plays.schedule = at-bytes before.left bytes (λ r. r ≡ PlanRead plays.parts plays.schedule) is plays.read in
    let text = report_of plays.parts (reverse plays.run) packets in
    record { text = text; due = subst (IsDueFor packets status.Done text) (sym read) (Reports plays.run plays.played refl refl) }

answers-due : (packets : Bool) (before after : Ends) (answer : Status) (bytes : List ℕ) → before.left ≡ Some bytes → MeetsNoFault before after → Plays packets answer before after → (answer ≡ status.Memory) ⊎ DueFor packets answer bytes
answers-due packets before after status.Done bytes is none plays = inr (due-done packets before after bytes is plays)
answers-due packets before after status.Memory bytes is none plays = inl refl
answers-due packets before after status.Words bytes is none plays = absurd plays
answers-due packets before after status.ReadFault bytes is none plays = absurd (none.read plays.rises)
answers-due packets before after status.WriteFault bytes is none plays = absurd (none.write plays.rises)
answers-due packets before after (status.Refused line told) bytes is none plays =
    inr (record { text = refusal_line line told; due = at-bytes before.left bytes (IsDueFor packets (status.Refused line told) (refusal_line line told)) is plays.due })
answers-due packets before after status.TooLong bytes is none plays =
    let over : reading MOST_BYTES bytes ≡ TooManyBytes = at-bytes before.left bytes (λ r. r ≡ TooManyBytes) is plays.over in
    inr (record { text = []; due = subst (IsDueFor packets status.TooLong []) (sym over) (refl, refl) })

pub bytes-determine : BytesDetermine
bytes-determine = record { answers = answers-due; one = one-due }
