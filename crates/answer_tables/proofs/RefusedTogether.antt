-- With some more of each of several requests: how many requests the plan then has, which request a copy is like by its place, and how the first
-- request that isn't accepted is found, one after another.
use Rattle.std.proofs.Common.{◌≡◌, ℕ, suc, ◌+◌, ◌-◌, ◌*◌, ◌<◌, ◌≤◌, true, false, if◌then◌else◌, Option, Some, None, List, [], ◌∷◌, length, get_or, drop, take, reverse, refl, sym, ap, ◌∙◌, subst, arith}
use Rattle.std.proofs.Math.Nat.{suc-mul}
use Rattle.std.proofs.Math.Seq.{drop-cons}
use Rattle.std.proofs.lemmas.List.{drop_all, length-append, length-map, length-reverse, reverse-append, take_more}
use Rattle.std.proofs.lemmas.Option.{slice_get_within, get_or_from_slice_get}
use Rattle.std.specs.List.{slice_get}
use Rattle.std.proofs.lemmas.Bool.{cond-true, cond-false}
use Rattle.setup_protocol.specs.Setup.{Outcome}
use Rattle.call_script.specs.Parts.{PlanParts}
use Rattle.call_script.specs.declared.entries.RequestEntry.{RequestEntry}
use Rattle.question_plans.specs.Alone.{alone_of, changed}
use Rattle.question_plans.specs.More.{IsWithMore}
use Rattle.question_plans.specs.declared.change.Change.TheVariants.{Nothing}
use Rattle.run_record.specs.declared.done.Done.{Done}
use Rattle.plan_answers.specs.Trials.{IsTrial, is_acceptance, outcome_in, run_in}
use Rattle.plan_answers.specs.declared.trial.Trial.{Trial}
use Rattle.answer_tables.specs.Together.{IsTriedWith, IsWithEach, first_refused, refused_at}

-- ---- the plan

pub none-more : (parts made : PlanParts) (count : ℕ) → made ≡ alone_of Nothing parts → IsWithEach parts [] count made
unfolding IsWithEach
none-more parts made count same = same

pub kind-more : (parts so_far made : PlanParts) (numbers : List ℕ) (i count : ℕ) → i < length numbers → get_or numbers i 0 < length parts.requests
    → IsWithEach parts (reverse (take i numbers)) count so_far → IsWithMore so_far (get_or numbers i 0) count made → IsWithEach parts (reverse (take (i + 1) numbers)) count made
unfolding IsWithEach
kind-more parts so_far made numbers i count inside own before more =
    let turned : get_or numbers i 0 ∷ reverse (take i numbers) ≡ reverse (take (i + 1) numbers) = sym (ap reverse (take_more numbers i 0 inside) ∙ reverse-append (take i numbers) (get_or numbers i 0 ∷ [])) in
    subst (λ (past : List ℕ). IsWithEach parts past count made) turned (own, (so_far, before, more))

-- it has as many requests
pub requests-with-each : (parts made : PlanParts) (past : List ℕ) (count : ℕ) → IsWithEach parts past count made → length made.requests ≡ length parts.requests + length past * count
unfolding IsWithEach
requests-with-each parts made [] count same = ap (λ (p : PlanParts). length p.requests) same ∙ length-map parts.requests (changed Nothing) ∙ omega arith
requests-with-each parts made (number ∷ past) count is =
    let so_far = requests-with-each parts is.1.0 past count is.1.1 in
    omega (arith, so_far, ap length is.1.2.copies.added, length-append is.1.0.requests is.1.2.copies.copies, is.1.2.copies.many, suc-mul (length past) count)

-- ---- the first request that isn't accepted

from-there : (entries : List RequestEntry) (n : ℕ) (entry : RequestEntry) → slice_get entries n ≡ Some entry → drop n entries ≡ entry ∷ drop (suc n) entries
from-there entries n entry at =
    drop-cons entries n entry (slice_get_within entries n entry at) ∙ ap (λ (e : RequestEntry). e ∷ drop (suc n) entries) (get_or_from_slice_get entries n entry entry at)

one-looked-at : (run : List Done) (n : ℕ) (entry : RequestEntry) (rest : List RequestEntry)
    → refused_at run n (entry ∷ rest) ≡ (if is_acceptance (outcome_in run entry.request) then refused_at run (suc n) rest else Some (n, outcome_in run entry.request))
unfolding refused_at
one-looked-at run n entry rest = refl

pub accepted-here : (run : List Done) (entries : List RequestEntry) (first n : ℕ) (entry : RequestEntry) → slice_get entries n ≡ Some entry → is_acceptance (outcome_in run entry.request) ≡ true
    → first_refused run first entries ≡ first_refused run n entries → first_refused run first entries ≡ first_refused run (n + 1) entries
accepted-here run entries first n entry at accepted so_far =
    so_far ∙ ap (refused_at run n) (from-there entries n entry at) ∙ one-looked-at run n entry (drop (suc n) entries)
    ∙ cond-true (is_acceptance (outcome_in run entry.request)) (refused_at run (suc n) (drop (suc n) entries)) (Some (n, outcome_in run entry.request)) accepted
    ∙ ap (λ k. first_refused run k entries) (let same : suc n ≡ n + 1 = omega arith in same)

pub refused-here : (run : List Done) (entries : List RequestEntry) (first n : ℕ) (entry : RequestEntry) → slice_get entries n ≡ Some entry → is_acceptance (outcome_in run entry.request) ≡ false
    → first_refused run first entries ≡ first_refused run n entries → first_refused run first entries ≡ Some (n, outcome_in run entry.request)
refused-here run entries first n entry at refused so_far =
    so_far ∙ ap (refused_at run n) (from-there entries n entry at) ∙ one-looked-at run n entry (drop (suc n) entries)
    ∙ cond-false (is_acceptance (outcome_in run entry.request)) (refused_at run (suc n) (drop (suc n) entries)) (Some (n, outcome_in run entry.request)) refused

pub none-refused : (run : List Done) (entries : List RequestEntry) (first n : ℕ) → length entries ≤ n → first_refused run first entries ≡ first_refused run n entries → first_refused run first entries ≡ None
unfolding refused_at
none-refused run entries first n past so_far = so_far ∙ ap (refused_at run n) (drop_all n entries past)

-- ---- a trial of the plan

-- a request behind the plan's own is a copy of one of the numbers
pub place-inside : (parts made : PlanParts) (numbers : List ℕ) (count at : ℕ) → IsWithEach parts (reverse numbers) count made → length parts.requests ≤ at → at < length made.requests
    → at - length parts.requests < length numbers * count
place-inside parts made numbers count at is from inside =
    let many : length made.requests ≡ length parts.requests + length numbers * count =
    requests-with-each parts made (reverse numbers) count is ∙ ap (λ n. length parts.requests + n * count) (length-reverse numbers) in
    omega arith

pub tried-in : (parts : PlanParts) (numbers : List ℕ) (count : ℕ) (made : PlanParts) (trial : Trial) (refused : Option (ℕ × Option Outcome))
    → IsWithEach parts (reverse numbers) count made → IsTrial trial → trial.plan ≡ made → refused ≡ first_refused (run_in trial) (length parts.requests) trial.plan.requests → IsTriedWith parts numbers count refused
tried-in parts numbers count made trial refused is played same first = record {
  made = trial.plan;
  is = subst (IsWithEach parts (reverse numbers) count) (sym same) is;
  run = run_in trial;
  played = played.played;
  first = first;
}
