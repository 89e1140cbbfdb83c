-- What is due for a load is one status and one text, and an answer without a fault is due for it.
use Rattle.std.proofs.Common.{◌≡◌, ◌⊎◌, inl, inr, refl, ℕ, List, Option, Result, Ok, Err, subst, sym, ◌∙◌, ap, reverse}
use Rattle.std.proofs.lemmas.List.{reverse-reverse}
use Rattle.std.specs.Io.KnownBytes.{Appends}
use Rattle.byte_ends.specs.Faults.{FaultsRise}
use Rattle.call_script.specs.Parts.{PlanParts}
use Rattle.call_script.specs.Tasks.{network_of}
use Rattle.channel_report.specs.Summary.{summary_of}
use Rattle.text_writer.specs.Telling.{WritesText}
use Rattle.text_writer.specs.declared.fault.ReportFault.{ReportFault}
use Rattle.text_writer.specs.declared.fault.ReportFault.TheVariants as fault
use Rattle.interleave_core.specs.channels.Laws.{IsGuaranteedRun}
use Rattle.load_maker.proofs.TurnLaws.{turns-one-run}
use Rattle.load_maker.specs.Made.{made_parts}
use Rattle.load_maker.specs.TurnRuns.{IsTurnsRun}
use Rattle.run_record.specs.declared.done.Done.{Done}
use Rattle.tenet_app.specs.Making.{DueOfLoad, DueAs, Makes, Summarizes, LoadsDetermine}
use Rattle.tenet_app.specs.declared.status.Status.{Status}
use Rattle.tenet_app.specs.declared.status.Status.TheVariants as status

-- ---- one status and one text

one-due : (number size : ℕ) (answer other : Status) (text text_other : List ℕ) → DueOfLoad number size answer text → DueOfLoad number size other text_other → (answer ≡ other) × (text ≡ text_other)
one-due number size answer other text text_other one two =
    let same = turns-one-run.one (network_of (made_parts number size)) one.run two.run one.by_turns two.by_turns in
    (one.done ∙ sym two.done, one.summary ∙ ap (λ r. summary_of number size (made_parts number size) (reverse r)) same ∙ sym two.summary)

-- ---- an answer without a fault

answers-due : (number size : ℕ) (answer : Status) (written written' : Option (List ℕ)) (faults faults' : ℕ) → (FaultsRise faults faults' → ⊥) → Makes number size answer written written' faults faults' → (answer ≡ status.Memory) ⊎ DueAs number size answer
answers-due number size status.Done written written' faults faults' none makes =
    inr (record { text = summary_of number size (made_parts number size) (reverse makes.run); due = record { run = makes.run; by_turns = makes.by_turns; done = refl; summary = refl } })
answers-due number size status.Memory written written' faults faults' none makes = inl refl
answers-due number size status.Words written written' faults faults' none makes = absurd makes
answers-due number size status.ReadFault written written' faults faults' none makes = absurd makes
answers-due number size status.WriteFault written written' faults faults' none makes = absurd (none makes.0)
answers-due number size (status.Refused line told) written written' faults faults' none makes = absurd makes
answers-due number size status.TooLong written written' faults faults' none makes = absurd makes

pub loads-determine : LoadsDetermine
loads-determine = record { answers = answers-due; one = one-due }

-- ---- the summary of a run

-- what was written of it, by the run's entries
made-summary : (number size : ℕ) (entries : List Done) (text : List ℕ) → IsTurnsRun (network_of (made_parts number size)) (reverse entries) → text ≡ summary_of number size (made_parts number size) entries → DueOfLoad number size status.Done text
made-summary number size entries text by_turns is =
    record { run = reverse entries; by_turns = by_turns; done = refl; summary = is ∙ ap (λ es. summary_of number size (made_parts number size) es) (sym (reverse-reverse entries)) }

summarized : {X : Type 0} (number size : ℕ) (entries : List Done) (answer : Result X ReportFault) (written written' : Option (List ℕ)) (faults faults' : ℕ) → IsTurnsRun (network_of (made_parts number size)) (reverse entries) → IsGuaranteedRun (made_parts number size) (reverse entries)
    → WritesText answer written written' faults faults' (summary_of number size (made_parts number size) entries) → Summarizes number size answer written written' faults faults'
summarized number size entries (Ok done) written written' faults faults' by_turns guaranteed writes = record {
  run = reverse entries;
  by_turns = by_turns;
  guaranteed = guaranteed;
  appends = subst (λ es. Appends written written' (summary_of number size (made_parts number size) es)) (sym (reverse-reverse entries)) writes.0;
}
summarized number size entries (Err fault.Memory) written written' faults faults' by_turns guaranteed writes =
    inr (record { text = summary_of number size (made_parts number size) entries; due = made-summary number size entries _ by_turns refl; front = writes.0 })
summarized number size entries (Err fault.WriteFault) written written' faults faults' by_turns guaranteed writes =
    (writes.1, record { text = summary_of number size (made_parts number size) entries; due = made-summary number size entries _ by_turns refl; front = writes.0 })

-- of a plan that is the load's
pub plan-summarized : {X : Type 0} (number size : ℕ) (parts : PlanParts) (entries : List Done) (answer : Result X ReportFault) (written written' : Option (List ℕ)) (faults faults' : ℕ) → parts ≡ made_parts number size → IsTurnsRun (network_of parts) (reverse entries) → IsGuaranteedRun parts (reverse entries)
    → WritesText answer written written' faults faults' (summary_of number size parts entries) → Summarizes number size answer written written' faults faults'
plan-summarized number size parts entries answer written written' faults faults' is by_turns guaranteed writes =
    summarized number size entries answer written written' faults faults' (subst (λ p. IsTurnsRun (network_of p) (reverse entries)) is by_turns) (subst (λ p. IsGuaranteedRun p (reverse entries)) is guaranteed)
    (subst (λ p. WritesText answer written written' faults faults' (summary_of number size p entries)) is writes)
