-- The sums over the requests of a run, one request after the other.
use Rattle.std.proofs.Common.{◌≡◌, ℕ, ◌+◌, ◌*◌, ◌<◌, ◌≤◌, Option, List, [], ◌∷◌, length, take, get_or, sym, ap, ◌∙◌, subst, arith}
use Rattle.traffic_contract.specs.Admission.{total}
use Rattle.traffic_contract.proofs.AdmissionTest.{total-append}
use Rattle.setup_protocol.specs.Setup.{Outcome}
use Rattle.call_script.proofs.Walks.{before-at}
use Rattle.call_script.specs.declared.entries.RequestEntry.{RequestEntry}
use Rattle.run_record.specs.declared.done.Done.{Done}
use Rattle.run_record.specs.declared.rows.HopRow.{HopRow}
use Rattle.channel_report.specs.Channels.{was_accepted}
use Rattle.channel_report.specs.Summary.{accepts, denies, delivers, is_denied, sums_of, with_request}
use Rattle.channel_report.specs.Verdicts.{verdict_in}
use Rattle.channel_report.specs.declared.summary.Sums.{Sums}
use Rattle.channel_report.proofs.CountsPerLink.{one-most}

-- the total over one element more
total-more : {X : Type 0} (f : X → ℕ) (xs : List X) (i : ℕ) (x : X) → i < length xs → x ≡ get_or xs i x → total f (take (i + 1) xs) ≡ total f (take i xs) + f x
total-more f xs i x inside is =
    let one : f x + 0 ≡ f x = omega arith in
    ap (total f) (before-at xs i x inside is) ∙ total-append f (take i xs) (x ∷ []) ∙ ap (λ n. total f (take i xs) + n) one

pub sums-more : (rows : List HopRow) (run : List Done) (requests : List RequestEntry) (i : ℕ) (entry : RequestEntry) (outcome : Option Outcome) (delivered : ℕ) (sums : Sums) → i < length requests → entry ≡ get_or requests i entry → outcome ≡ verdict_in run entry → delivered ≡ delivers rows entry
    → sums ≡ sums_of rows run (take i requests) → with_request outcome delivered sums ≡ sums_of rows run (take (i + 1) requests)
sums-more rows run requests i entry outcome delivered sums inside is judged told before =
    ap (λ s. with_request outcome delivered s) before ∙ ap (λ o. with_request o delivered (sums_of rows run (take i requests))) judged ∙ ap (λ d. with_request (verdict_in run entry) d (sums_of rows run (take i requests))) told
    ∙ sym (
    ap (λ n. let s : Sums = record { accepted = n; denied = total (denies run) (take (i + 1) requests); delivered = total (delivers rows) (take (i + 1) requests) } in s) (total-more (accepts run) requests i entry inside is)
    ∙ ap (λ n. let s : Sums = record { accepted = total (accepts run) (take i requests) + accepts run entry; denied = n; delivered = total (delivers rows) (take (i + 1) requests) } in s) (total-more (denies run) requests i entry inside is)
    ∙ ap (λ n. let s : Sums = record { accepted = total (accepts run) (take i requests) + accepts run entry; denied = total (denies run) (take i requests) + denies run entry; delivered = n } in s) (total-more (delivers rows) requests i entry inside is))

-- each sum grows by at most what one request brings
pub record AreFew (sums : Sums) (i : ℕ) : Type 0 where
  pub accepted : sums.accepted ≤ i
  pub denied : sums.denied ≤ i
  pub delivered : sums.delivered ≤ 18446744073709551616 * i

pub few-more : (outcome : Option Outcome) (delivered : ℕ) (sums new : Sums) (i : ℕ) → new ≡ with_request outcome delivered sums → delivered < 18446744073709551616 → sums.accepted ≤ i → sums.denied ≤ i → sums.delivered ≤ 18446744073709551616 * i → AreFew new (i + 1)
few-more outcome delivered sums new i is small accepted denied all =
    let yes = one-most (was_accepted outcome) in
    let no = one-most (is_denied outcome) in
    subst (λ s. AreFew s (i + 1)) (sym is) (record { accepted = omega (arith, accepted, yes); denied = omega (arith, denied, no); delivered = omega (arith, all, small) })
