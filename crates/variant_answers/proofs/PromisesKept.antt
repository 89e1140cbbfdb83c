-- Each request is promised what its setup has come to, and the reading of a text says which plan that is of.
use Rattle.std.proofs.Common.{◌≡◌, ℕ, zero, suc, ◌+◌, ◌<◌, List, [], ◌∷◌, ◌++◌, Option, Some, take, length, refl, sym, ap, ◌∙◌, subst, slice_get, arith}
use Rattle.std.proofs.lemmas.List.{map-append}
use Rattle.call_script.specs.Parts.{PlanParts}
use Rattle.call_script.specs.declared.entries.RequestEntry.{RequestEntry}
use Rattle.call_script.specs.declared.schedule.Schedule.{Schedule}
use Rattle.plan_answers.specs.Trials.{outcome_in}
use Rattle.run_record.specs.declared.done.Done.{Done}
use Rattle.scenario_reader.specs.Reading.{Reading, PlanRead, TooManyBytes, reading}
use Rattle.scenario_reader.specs.ReadSteps.{RefusesLine, scenarios}
use Rattle.scenario_reader.specs.declared.cause.Cause.{Cause}
use Rattle.scenario_reader.specs.declared.reader.TheConstants.{MOST_BYTES}
use Rattle.setup_protocol.specs.Setup.{Outcome as Settled}
use Rattle.variant_answers.specs.Outcomes.{ComesTo, IsJudged, IsRefusedAt, promised_by, promised_in}
use Rattle.variant_answers.specs.declared.outcome.Judged.{Judged}
use Rattle.variant_answers.specs.declared.outcome.Outcome.{Outcome}
use Rattle.variant_answers.specs.declared.outcome.Outcome.TheVariants as outcome

record NextTaken {X : Type 0} (xs : List X) (i : ℕ) : Type 0 where
  item : X
  found : slice_get xs i ≡ Some item
  taken : take (suc i) xs ≡ take i xs ++ item ∷ []

next-taken : {X : Type 0} (xs : List X) (i : ℕ) → i < length xs → NextTaken xs i
next-taken [] i inside = absurd (omega (arith, inside))
next-taken (x ∷ xs) zero inside = record { item = x; found = refl; taken = refl }
next-taken (x ∷ xs) (suc i) inside =
    let rest = next-taken xs i (omega (arith, inside)) in
    record { item = rest.item; found = rest.found; taken = ap (λ ys. x ∷ ys) rest.taken }

abbrev delay_of : List Done → RequestEntry → Option ℕ
delay_of run entry = promised_by (outcome_in run entry.request)

-- one more request has its promise
pub promised-more : (run : List Done) (entries : List RequestEntry) (i : ℕ) (settled : Option Settled) (delay : Option ℕ) (delays more : List (Option ℕ)) → i < length entries →
    ((entry : RequestEntry) → slice_get entries i ≡ Some entry → settled ≡ outcome_in run entry.request) → delay ≡ promised_by settled →
    delays ≡ promised_in run (take i entries) → more ≡ delays ++ delay ∷ [] → more ≡ promised_in run (take (i + 1) entries)
promised-more run entries i settled delay delays more inside verdict is were more_is =
    let next = next-taken entries i inside in
    let up : i + 1 ≡ suc i = omega arith in
    more_is ∙ ap (λ (ds : List (Option ℕ)). ds ++ delay ∷ []) were
    ∙ ap (λ (d : Option ℕ). promised_in run (take i entries) ++ d ∷ []) (is ∙ ap promised_by (verdict next.item next.found))
    ∙ sym (map-append (delay_of run) (take i entries) (next.item ∷ [])) ∙ ap (promised_in run) (sym (ap (λ (n : ℕ). take n entries) up ∙ next.taken))

-- a plan is read
pub plan-read : (bytes given : List ℕ) (parts : PlanParts) (schedule : Schedule) (judged : Judged) → given ≡ bytes → reading MOST_BYTES given ≡ PlanRead parts schedule → IsJudged parts judged →
    ComesTo (reading MOST_BYTES bytes) (outcome.Judged judged)
plan-read bytes given parts schedule judged same read is =
    subst (λ (r : Reading). ComesTo r (outcome.Judged judged)) (sym read ∙ ap (reading MOST_BYTES) same) is

-- a line is refused
pub line-refused : (bytes given : List ℕ) (line : ℕ) (cause : Cause) (told : Outcome) → given ≡ bytes → RefusesLine scenarios line cause (reading MOST_BYTES given) → IsRefusedAt line told →
    ComesTo (reading MOST_BYTES bytes) told
line-refused bytes given line cause told same refused is =
    subst (λ (r : Reading). ComesTo r told) (sym refused.is ∙ ap (reading MOST_BYTES) same) is

-- there are too many bytes
pub too-many : (bytes given : List ℕ) (told : Outcome) → given ≡ bytes → reading MOST_BYTES given ≡ TooManyBytes → IsRefusedAt 1 told → ComesTo (reading MOST_BYTES bytes) told
too-many bytes given told same over is = subst (λ (r : Reading). ComesTo r told) (sym over ∙ ap (reading MOST_BYTES) same) is
