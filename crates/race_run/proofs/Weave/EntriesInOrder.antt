-- The entries of a journal by stamp, which rises: how many are below a stamp, and which comes next. And the number of the journal that
-- has a stamp: it leads to that journal, or to none where none has it.
use Rattle.std.proofs.Common.{◌≡◌, ◌≢◌, ◌⊎◌, ℕ, zero, suc, ◌+◌, ◌<◌, ◌≤◌, Bool, true, false, Some, None, List, [], ◌∷◌, set, refl, sym, ap, ◌∙◌, subst, inl, inr, arith}
use Rattle.std.proofs.lemmas.Bool.{lt-ltb, le-ltb, eq-eqb, ne_eqb, cases_eq, cases_lt}
use Rattle.std.proofs.lemmas.Option.{same_Some}
use Rattle.std.specs.Prelude.{if◌then◌else◌}
use Rattle.std.specs.List.{slice_get}
use Rattle.link_steps.specs.Lists.{Each}
use Rattle.step_stamp.specs.Marks.{RisesFrom, StampsRise}
use Rattle.link_ledger.specs.Journals.{marks_in}
use Rattle.link_ledger.specs.declared.entries.Entry.{Entry}
use Rattle.link_ledger.specs.declared.entries.Journal.{Journal}
use Rattle.race_run.specs.Order.{has_stamp, journal_with}
use Rattle.race_run.specs.Telling.{count_below, counts_below}

-- ---- the first entry

count-lower : (stamp : ℕ) (e : Entry) (entries : List Entry) → e.stamp < stamp → count_below stamp (e ∷ entries) ≡ suc (count_below stamp entries)
unfolding count_below
count-lower stamp e entries less = rw (lt-ltb e.stamp stamp less) refl

count-higher : (stamp : ℕ) (e : Entry) (entries : List Entry) → stamp ≤ e.stamp → count_below stamp (e ∷ entries) ≡ count_below stamp entries
unfolding count_below
count-higher stamp e entries le = rw (le-ltb e.stamp stamp le) refl

count-none : (stamp : ℕ) → count_below stamp [] ≡ 0
unfolding count_below
count-none stamp = refl

has-first : (stamp : ℕ) (e : Entry) (entries : List Entry) → e.stamp ≡ stamp → has_stamp stamp (e ∷ entries) ≡ true
unfolding has_stamp
has-first stamp e entries same = rw (eq-eqb e.stamp stamp same) refl

has-later : (stamp : ℕ) (e : Entry) (entries : List Entry) → e.stamp ≢ stamp → has_stamp stamp (e ∷ entries) ≡ has_stamp stamp entries
unfolding has_stamp
has-later stamp e entries other = rw (ne_eqb e.stamp stamp other) refl

has-nothing : (stamp : ℕ) → has_stamp stamp [] ≡ false
unfolding has_stamp
has-nothing stamp = refl

-- ---- stamps that rise

-- none of those above `low` is below the next stamp
below-none : (low stamp : ℕ) (entries : List Entry) → RisesFrom low (marks_in entries) → stamp ≤ suc low → count_below stamp entries ≡ 0
below-none low stamp [] rises le = count-none stamp
below-none low stamp (e ∷ entries) rises le =
    let first : low < e.stamp = rises.0 in
    count-higher stamp e entries (omega (arith, first, le)) ∙ below-none e.stamp stamp entries rises.1 (omega (arith, first, le))

-- one that has a stamp is above
above-low : (low stamp : ℕ) (entries : List Entry) → RisesFrom low (marks_in entries) → has_stamp stamp entries ≡ true → low < stamp
above-low low stamp [] rises has = absurd (let clash : false ≡ true = sym (has-nothing stamp) ∙ has in cc)
above-low low stamp (e ∷ entries) rises has = elim (cases_eq e.stamp stamp) [
  | inl same ↦ (let first : low < e.stamp = rises.0 in omega (arith, first, same))
  | inr other ↦ (let first : low < e.stamp = rises.0 in let rest = above-low e.stamp stamp entries rises.1 (sym (has-later stamp e entries other) ∙ has) in omega (arith, first, rest))
]

-- the entry of a stamp stands behind those below it
pub record NextIn (stamp : ℕ) (entries : List Entry) : Type 0 where
  pub entry : Entry
  pub here : slice_get entries (count_below stamp entries) ≡ Some entry
  pub is : entry.stamp ≡ stamp

pub next-in : (low stamp : ℕ) (entries : List Entry) → RisesFrom low (marks_in entries) → has_stamp stamp entries ≡ true → NextIn stamp entries
next-in low stamp [] rises has = absurd (let clash : false ≡ true = sym (has-nothing stamp) ∙ has in cc)
next-in low stamp (e ∷ entries) rises has = elim (cases_eq e.stamp stamp) [
  | inl same ↦ record {
    entry = e;
    here = ap (slice_get (e ∷ entries)) (count-higher stamp e entries (omega (arith, same)) ∙ below-none e.stamp stamp entries rises.1 (omega (arith, same)));
    is = same;
  }
  | inr other ↦ (
      let later : has_stamp stamp entries ≡ true = sym (has-later stamp e entries other) ∙ has in
      let rest = next-in e.stamp stamp entries rises.1 later in
      record { entry = rest.entry; here = ap (slice_get (e ∷ entries)) (count-lower stamp e entries (above-low e.stamp stamp entries rises.1 later)) ∙ rest.here; is = rest.is })
]

-- with the stamp they are one more where one has it, and else as many
pub count-with : (low stamp : ℕ) (entries : List Entry) → RisesFrom low (marks_in entries) → has_stamp stamp entries ≡ true → count_below (suc stamp) entries ≡ suc (count_below stamp entries)
count-with low stamp [] rises has = absurd (let clash : false ≡ true = sym (has-nothing stamp) ∙ has in cc)
count-with low stamp (e ∷ entries) rises has = elim (cases_eq e.stamp stamp) [
  | inl same ↦ (
      let now = count-lower (suc stamp) e entries (omega (arith, same)) in
      let rest = below-none e.stamp (suc stamp) entries rises.1 (omega (arith, same)) in
      let was = count-higher stamp e entries (omega (arith, same)) in
      let few = below-none e.stamp stamp entries rises.1 (omega (arith, same)) in
      omega (arith, now, rest, was, few))
  | inr other ↦ (
      let later : has_stamp stamp entries ≡ true = sym (has-later stamp e entries other) ∙ has in
      let less = above-low e.stamp stamp entries rises.1 later in
      let now = count-lower (suc stamp) e entries (omega (arith, less)) in
      let was = count-lower stamp e entries less in
      let rest = count-with e.stamp stamp entries rises.1 later in
      omega (arith, now, was, rest))
]

pub count-without : (stamp : ℕ) (entries : List Entry) → has_stamp stamp entries ≡ false → count_below (suc stamp) entries ≡ count_below stamp entries
count-without stamp [] has = count-none (suc stamp) ∙ sym (count-none stamp)
count-without stamp (e ∷ entries) has = elim (cases_eq e.stamp stamp) [
  | inl same ↦ absurd (let clash : true ≡ false = sym (has-first stamp e entries same) ∙ has in cc)
  | inr other ↦ (
      let rest = count-without stamp entries (sym (has-later stamp e entries other) ∙ has) in
      elim (cases_lt e.stamp stamp) [
        | inl less ↦ (let now = count-lower (suc stamp) e entries (omega (arith, less)) in let was = count-lower stamp e entries less in omega (arith, now, was, rest))
        | inr le ↦ (
            let above : suc stamp ≤ e.stamp = (elim (cases_lt stamp e.stamp) [ inl more ↦ omega (arith, more) | inr not ↦ absurd (other (omega (arith, le, not))) ]) in
            let now = count-higher (suc stamp) e entries above in
            let was = count-higher stamp e entries le in
            omega (arith, now, was, rest))
      ])
]

-- an entry in the list has its stamp
pub has-at : (stamp k : ℕ) (entries : List Entry) (e : Entry) → slice_get entries k ≡ Some e → e.stamp ≡ stamp → has_stamp stamp entries ≡ true
has-at stamp k [] e found is = absurd (let clash : None ≡ Some e = found in cc)
has-at stamp zero (first ∷ entries) e found is = has-first stamp first entries (ap (λ (x : Entry). x.stamp) (same_Some first e found) ∙ is)
has-at stamp (suc k) (first ∷ entries) e found is = elim (cases_eq first.stamp stamp) [
  | inl same ↦ has-first stamp first entries same
  | inr other ↦ has-later stamp first entries other ∙ has-at stamp k entries e found is
]

-- ---- the journal that has a stamp

abbrev pub HasNot : ℕ → Journal → Type 0
HasNot stamp journal = has_stamp stamp journal.entries ≡ false

-- the journal at this number has it
pub record HasOne (stamp n number : ℕ) (journals : List Journal) : Type 0 where
  pub place : ℕ
  pub journal : Journal
  pub found : slice_get journals place ≡ Some journal
  pub has : has_stamp stamp journal.entries ≡ true
  pub is : number ≡ n + place

pub one-has : (stamp n none : ℕ) (journals : List Journal) → ((journal_with stamp n none journals ≡ none) × Each (HasNot stamp) journals) ⊎ HasOne stamp n (journal_with stamp n none journals) journals
unfolding journal_with
one-has stamp n none [] = inl (refl, tt)
one-has stamp n none (journal ∷ journals) = by (has_stamp stamp journal.entries) refl (one-has stamp (suc n) (if has_stamp stamp journal.entries then n else none) journals) where
  by : (b : Bool) → has_stamp stamp journal.entries ≡ b → ((journal_with stamp (suc n) (if has_stamp stamp journal.entries then n else none) journals ≡ (if has_stamp stamp journal.entries then n else none)) × Each (HasNot stamp) journals) ⊎ HasOne stamp (suc n) (journal_with stamp (suc n) (if has_stamp stamp journal.entries then n else none) journals) journals
      → ((journal_with stamp (suc n) (if has_stamp stamp journal.entries then n else none) journals ≡ none) × Each (HasNot stamp) (journal ∷ journals)) ⊎ HasOne stamp n (journal_with stamp (suc n) (if has_stamp stamp journal.entries then n else none) journals) (journal ∷ journals)
  by b is (inr later) = (let up : suc n + later.place ≡ n + suc later.place = omega arith in inr (record { place = suc later.place; journal = later.journal; found = later.found; has = later.has; is = later.is ∙ up }))
  by true is (inl never) = (let up : n ≡ n + 0 = omega arith in inr (record { place = 0; journal = journal; found = refl; has = is; is = never.0 ∙ ap (λ b. if b then n else none) is ∙ up }))
  by false is (inl never) = inl (never.0 ∙ ap (λ b. if b then n else none) is, (is, never.1))

-- ---- how many are told of each journal

pub counts-without : (stamp : ℕ) (journals : List Journal) → ((l : ℕ) (other : Journal) → slice_get journals l ≡ Some other → HasNot stamp other) → counts_below (suc stamp) journals ≡ counts_below stamp journals
counts-without stamp [] none = refl
counts-without stamp (first ∷ journals) none =
    ap (λ n. n ∷ counts_below (suc stamp) journals) (count-without stamp first.entries (none 0 first refl)) ∙ ap (λ ns. count_below stamp first.entries ∷ ns) (counts-without stamp journals (λ l other there. none (suc l) other there))

pub counts-with : (stamp k : ℕ) (journals : List Journal) (journal : Journal) → Each (λ (j : Journal). StampsRise (marks_in j.entries)) journals → slice_get journals k ≡ Some journal → has_stamp stamp journal.entries ≡ true
    → ((l : ℕ) (other : Journal) → l ≢ k → slice_get journals l ≡ Some other → HasNot stamp other) → counts_below (suc stamp) journals ≡ set (counts_below stamp journals) k (suc (count_below stamp journal.entries))
counts-with stamp k [] journal rises found has others = absurd (let clash : None ≡ Some journal = found in cc)
counts-with stamp zero (first ∷ journals) journal rises found has others =
    let same = same_Some first journal found in
    let here : count_below (suc stamp) first.entries ≡ suc (count_below stamp journal.entries) = ap (λ (j : Journal). count_below (suc stamp) j.entries) same ∙ count-with 0 stamp journal.entries (subst (λ (j : Journal). StampsRise (marks_in j.entries)) same rises.0) has in
    ap (λ n. n ∷ counts_below (suc stamp) journals) here ∙ ap (λ ns. suc (count_below stamp journal.entries) ∷ ns) (counts-without stamp journals (λ l other there. others (suc l) other (λ e. absurd (omega (arith, e))) there))
counts-with stamp (suc k) (first ∷ journals) journal rises found has others =
    ap (λ n. n ∷ counts_below (suc stamp) journals) (count-without stamp first.entries (others 0 first (λ e. absurd (omega (arith, e))) refl))
    ∙ ap (λ ns. count_below stamp first.entries ∷ ns) (counts-with stamp k journals journal rises.1 found has (λ l other ne there. others (suc l) other (λ e. ne (omega (arith, e))) there))

none-below : (entries : List Entry) → count_below 0 entries ≡ 0
none-below [] = count-none 0
none-below (e ∷ entries) = count-higher 0 e entries (omega arith) ∙ none-below entries

pub counts-nothing : (journals : List Journal) → Each (λ (j : Journal). count_below 0 j.entries ≡ 0) journals
counts-nothing [] = tt
counts-nothing (journal ∷ journals) = (none-below journal.entries, counts-nothing journals)
