-- A table of the order of stamps, filled entry by entry and journal by journal: what stands at each stamp.
use Rattle.std.proofs.Common.{◌≡◌, ℕ, zero, suc, ◌+◌, ◌<◌, ◌≤◌, Bool, true, false, Option, Some, List, [], ◌∷◌, ◌++◌, length, take, get_or, set, replicate, refl, sym, ap, ◌∙◌, subst, arith}
use Rattle.std.proofs.lemmas.Bool.{eqb-true, eqb-false}
use Rattle.std.proofs.lemmas.Option.{slice_get_read}
use Rattle.std.proofs.lemmas.List.{length-set, length-replicate}
use Rattle.std.specs.Prelude.{nat_eq, if◌then◌else◌}
use Rattle.std.specs.List.{slice_get}
use Rattle.link_steps.specs.Lists.{Each}
use Rattle.link_steps.proofs.SearchAndFilter.{Each-if}
use Rattle.link_steps.proofs.ListParts.{Each-at}
use Rattle.link_ledger.specs.declared.entries.Entry.{Entry}
use Rattle.link_ledger.specs.declared.entries.Journal.{Journal}
use Rattle.call_script.proofs.Walks.{before-at}
use Rattle.run_engine.proofs.Keeping.Lookups.{get-set-other}
use Rattle.race_run.specs.Order.{AreBelow, AreStampedUpTo, HasOrder, IsMarked, has_stamp, journal_with}
use Rattle.race_run.proofs.PieceSteps.TailComesLast.{each-taken}

-- ---- one more entry

has-last : (stamp : ℕ) (entries : List Entry) (e : Entry) → has_stamp stamp (entries ++ e ∷ []) ≡ (if nat_eq e.stamp stamp then true else has_stamp stamp entries)
unfolding has_stamp
has-last stamp [] e = refl
has-last stamp (first ∷ entries) e = ap (λ b. if nat_eq first.stamp stamp then true else b) (has-last stamp entries e) ∙ turn (nat_eq first.stamp stamp) (nat_eq e.stamp stamp) (has_stamp stamp entries) where
  turn : (a b c : Bool) → (if a then true else (if b then true else c)) ≡ (if b then true else (if a then true else c))
  turn true true c = refl
  turn true false c = refl
  turn false b c = refl

set-same : (xs : List ℕ) (i x : ℕ) → i < length xs → slice_get (set xs i x) i ≡ Some x
set-same [] i x less = absurd (omega (arith, less))
set-same (y ∷ ys) zero x less = refl
set-same (y ∷ ys) (suc i) x less = set-same ys i x (omega (arith, less))

put-at : (b has : Bool) (now : List ℕ) (at stamp number : ℕ) (was : Option ℕ) → nat_eq at stamp ≡ b → at < length now → slice_get now stamp ≡ (if has then Some number else was)
    → slice_get (set now at number) stamp ≡ (if (if b then true else has) then Some number else was)
put-at true has now at stamp number was is less so_far = subst (λ s. slice_get (set now at number) s ≡ Some number) (eqb-true at stamp is) (set-same now at number less)
put-at false has now at stamp number was is less so_far = get-set-other now at stamp number (λ same. eqb-false at stamp is (sym same)) ∙ so_far

pub marked-none : (number : ℕ) (order : List ℕ) → IsMarked number [] order order
unfolding has_stamp
marked-none number order = record { long = refl; at = λ stamp less. refl }

pub marked-more : (number : ℕ) (entries : List Entry) (i : ℕ) (e : Entry) (old now now' : List ℕ) → i < length entries → e ≡ get_or entries i e → AreBelow (length old) entries → IsMarked number (take i entries) old now → now' ≡ set now e.stamp number
    → IsMarked number (take (i + 1) entries) old now'
marked-more number entries i e old now now' inside is all so_far put =
    let less = Each-at (λ (x : Entry). x.stamp < length old) entries i e all (slice_get_read entries (length entries) i e refl inside is) in
    let more = before-at entries i e inside is in
    let within : e.stamp < length now = subst (λ n. e.stamp < n) (sym so_far.long) less in
    record {
      long = ap length put ∙ length-set now e.stamp number ∙ so_far.long;
      at = λ stamp below.
          ap (λ os. slice_get os stamp) put
          ∙ put-at (nat_eq e.stamp stamp) (has_stamp stamp (take i entries)) now e.stamp stamp number (slice_get old stamp) refl within (so_far.at stamp below)
          ∙ ap (λ b. if b then Some number else slice_get old stamp) (sym (ap (has_stamp stamp) more ∙ has-last stamp (take i entries) e));
    }

-- ---- one more journal

journal-last : (stamp n none : ℕ) (journals : List Journal) (journal : Journal) → journal_with stamp n none (journals ++ journal ∷ []) ≡ (if has_stamp stamp journal.entries then n + length journals else journal_with stamp n none journals)
unfolding journal_with
journal-last stamp n none [] journal = (let here : n ≡ n + 0 = omega arith in ap (λ m. if has_stamp stamp journal.entries then m else none) here)
journal-last stamp n none (first ∷ journals) journal =
    let none' = if has_stamp stamp first.entries then n else none in
    let next : suc n + length journals ≡ n + suc (length journals) = omega arith in
    journal-last stamp (suc n) none' journals journal ∙ ap (λ m. if has_stamp stamp journal.entries then m else journal_with stamp (suc n) none' journals) next

taken-long : (journals : List Journal) (i : ℕ) → i < length journals → length (take i journals) ≡ i
taken-long [] i less = absurd (omega (arith, less))
taken-long (x ∷ xs) zero less = refl
taken-long (x ∷ xs) (suc i) less = ap suc (taken-long xs i (omega (arith, less)))

some-if : (b : Bool) (x y : ℕ) (was : Option ℕ) → was ≡ Some y → (if b then Some x else was) ≡ Some (if b then x else y)
some-if true x y was is = refl
some-if false x y was is = is

pub order-more : (journals : List Journal) (i number : ℕ) (journal : Journal) (order order' : List ℕ) → i < length journals → journal ≡ get_or journals i journal → number ≡ i → HasOrder (take i journals) order → IsMarked number journal.entries order order' → HasOrder (take (i + 1) journals) order'
order-more journals i number journal order order' inside is same so_far marked stamp less =
    let within : stamp < length order = subst (λ n. stamp < n) marked.long less in
    let more = before-at journals i journal inside is in
    let place : number ≡ 0 + length (take i journals) = (let long = taken-long journals i inside in omega (arith, same, long)) in
    marked.at stamp within
    ∙ some-if (has_stamp stamp journal.entries) number (journal_with stamp 0 255 (take i journals)) (slice_get order stamp) (so_far stamp within)
    ∙ ap (λ m. Some (if has_stamp stamp journal.entries then m else journal_with stamp 0 255 (take i journals))) place
    ∙ ap Some (sym (ap (journal_with stamp 0 255) more ∙ journal-last stamp 0 255 (take i journals) journal))

replicate-at : (n stamp x : ℕ) → stamp < n → slice_get (replicate n x) stamp ≡ Some x
replicate-at zero stamp x less = absurd (omega (arith, less))
replicate-at (suc n) zero x less = refl
replicate-at (suc n) (suc stamp) x less = replicate-at n stamp x (omega (arith, less))

pub order-none : (n : ℕ) (order : List ℕ) → order ≡ replicate n 255 → HasOrder [] order
unfolding journal_with
order-none n order is stamp less =
    let long : length order ≡ n = ap length is ∙ length-replicate n 255 in
    ap (λ os. slice_get os stamp) is ∙ replicate-at n stamp 255 (omega (arith, less, long))

-- ---- the last stamp

pub up-to-later : (most top : ℕ) (journals : List Journal) → most ≤ top → Each (AreStampedUpTo most) journals → Each (AreStampedUpTo top) journals
up-to-later most top journals le each =
    Each-if (AreStampedUpTo most) (AreStampedUpTo top) journals (λ journal all. Each-if (λ (e : Entry). e.stamp ≤ most) (λ (e : Entry). e.stamp ≤ top) journal.entries (λ e at. omega (arith, at, le)) all) each

pub latest-journal : (most top : ℕ) (journals : List Journal) (i : ℕ) (journal : Journal) → i < length journals → journal ≡ get_or journals i journal → Each (AreStampedUpTo most) (take i journals) → most ≤ top → AreStampedUpTo top journal → Each (AreStampedUpTo top) (take (i + 1) journals)
latest-journal most top journals i journal inside is so_far le here = each-taken (AreStampedUpTo top) journals i journal inside is (up-to-later most top (take i journals) le so_far) here

pub latest-entry : (most top : ℕ) (entries : List Entry) (i : ℕ) (e : Entry) → i < length entries → e ≡ get_or entries i e → Each (λ (x : Entry). x.stamp ≤ most) (take i entries) → most ≤ top → e.stamp ≤ top → Each (λ (x : Entry). x.stamp ≤ top) (take (i + 1) entries)
latest-entry most top entries i e inside is so_far le here =
    each-taken (λ (x : Entry). x.stamp ≤ top) entries i e inside is (Each-if (λ (x : Entry). x.stamp ≤ most) (λ (x : Entry). x.stamp ≤ top) (take i entries) (λ x at. omega (arith, at, le)) so_far) here

pub all-below : (most count : ℕ) (journals : List Journal) → most < count → Each (AreStampedUpTo most) journals → Each (λ (journal : Journal). AreBelow count journal.entries) journals
all-below most count journals less each =
    Each-if (AreStampedUpTo most) (λ (journal : Journal). AreBelow count journal.entries) journals (λ journal all. Each-if (λ (e : Entry). e.stamp ≤ most) (λ (e : Entry). e.stamp < count) journal.entries (λ e at. omega (arith, at, less)) all) each

pub journal-below : (most count : ℕ) (journals : List Journal) (i : ℕ) (journal : Journal) → most < count → Each (AreStampedUpTo most) journals → i < length journals → journal ≡ get_or journals i journal → AreBelow count journal.entries
journal-below most count journals i journal less each inside is =
    Each-at (λ (j : Journal). AreBelow count j.entries) journals i journal (all-below most count journals less each) (slice_get_read journals (length journals) i journal refl inside is)
