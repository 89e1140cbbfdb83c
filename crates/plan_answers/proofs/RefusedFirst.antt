-- The first request that isn't accepted in a run, from a number on, is found one request after another.
use Rattle.std.proofs.Common.{◌≡◌, ℕ, suc, ◌+◌, ◌≤◌, true, false, if◌then◌else◌, Some, None, List, ◌∷◌, length, drop, refl, ap, ◌∙◌, arith}
use Rattle.std.proofs.Math.Seq.{drop-cons}
use Rattle.std.proofs.lemmas.List.{drop_all}
use Rattle.std.proofs.lemmas.Option.{slice_get_within, get_or_from_slice_get}
use Rattle.std.specs.List.{slice_get}
use Rattle.std.proofs.lemmas.Bool.{cond-true, cond-false}
use Rattle.call_script.specs.declared.entries.RequestEntry.{RequestEntry}
use Rattle.run_record.specs.declared.done.Done.{Done}
use Rattle.plan_answers.specs.Rooms.{refused_among, refused_from}
use Rattle.plan_answers.specs.Trials.{outcome_in, is_acceptance}

from-there : (entries : List RequestEntry) (n : ℕ) (entry : RequestEntry) → slice_get entries n ≡ Some entry → drop n entries ≡ entry ∷ drop (n + 1) entries
from-there entries n entry at =
    drop-cons entries n entry (slice_get_within entries n entry at)
    ∙ ap (λ (e : RequestEntry). e ∷ drop (suc n) entries) (get_or_from_slice_get entries n entry entry at)
    ∙ ap (λ k. entry ∷ drop k entries) (let same : suc n ≡ n + 1 = omega arith in same)

one-looked-at : (run : List Done) (entry : RequestEntry) (rest : List RequestEntry)
    → refused_among run (entry ∷ rest) ≡ (if is_acceptance (outcome_in run entry.request) then refused_among run rest else Some (outcome_in run entry.request))
unfolding refused_among
one-looked-at run entry rest = refl

pub accepted-here : (run : List Done) (entries : List RequestEntry) (first n : ℕ) (entry : RequestEntry) → slice_get entries n ≡ Some entry → is_acceptance (outcome_in run entry.request) ≡ true
    → refused_from run first entries ≡ refused_from run n entries → refused_from run first entries ≡ refused_from run (n + 1) entries
accepted-here run entries first n entry at accepted so_far =
    so_far ∙ ap (refused_among run) (from-there entries n entry at) ∙ one-looked-at run entry (drop (n + 1) entries)
    ∙ cond-true (is_acceptance (outcome_in run entry.request)) (refused_among run (drop (n + 1) entries)) (Some (outcome_in run entry.request)) accepted

pub refused-here : (run : List Done) (entries : List RequestEntry) (first n : ℕ) (entry : RequestEntry) → slice_get entries n ≡ Some entry → is_acceptance (outcome_in run entry.request) ≡ false
    → refused_from run first entries ≡ refused_from run n entries → refused_from run first entries ≡ Some (outcome_in run entry.request)
refused-here run entries first n entry at refused so_far =
    so_far ∙ ap (refused_among run) (from-there entries n entry at) ∙ one-looked-at run entry (drop (n + 1) entries)
    ∙ cond-false (is_acceptance (outcome_in run entry.request)) (refused_among run (drop (n + 1) entries)) (Some (outcome_in run entry.request)) refused

pub none-refused : (run : List Done) (entries : List RequestEntry) (first n : ℕ) → length entries ≤ n → refused_from run first entries ≡ refused_from run n entries → refused_from run first entries ≡ None
unfolding refused_among
none-refused run entries first n past so_far = so_far ∙ ap (refused_among run) (drop_all n entries past)
