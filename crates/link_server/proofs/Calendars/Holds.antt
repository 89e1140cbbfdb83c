-- The calendar of holds goes with the rows as they come, change and go, and as its entries are taken.
use Rattle.std.proofs.Common.{◌≡◌, ℕ, ◌+◌, ◌≤◌, Bool, true, false, not, ◌&&◌, ◌||◌, ◌⊎◌, inl, inr, ⊎_elim, List, ◌∷◌, ◌++◌, length, None, refl, sym, ap, ◌∙◌, arith}
use Rattle.std.proofs.lemmas.Bool.{cases_Bool, eq-eqb, eqb-true, le-leb, leb-true, and_parts, or_right}
use Rattle.std.proofs.lemmas.List.Folds.{list_any-append}
use Rattle.link_server.proofs.Words.{list_any, nat_eq, nat_le, last_bound, newest, Phase, Tentative, Committed, Closing, AccountRow, account_stays, is_phase, not_in_phase, Entry}
use Rattle.link_steps.specs.Hold.{hold_ended}
use Rattle.link_steps.specs.declared.replies.Refusal.TheVariants.{NotInPhase}
use Rattle.link_steps.proofs.RulesPassed.{unless-none}
use Rattle.link_steps.proofs.ReservationFound.{phase-is}
use Rattle.link_server.specs.Holds.{is_open, tells_end, IsListed, EndsBy}
use Rattle.link_server.proofs.Calendars.HoldEnds.{open-phase}

-- ---- one row

-- the hold of an open row doesn't end
weaker : (a b c d : Bool) → not (a && (b || c)) ≡ true → not (a && (b || (c && d))) ≡ true
weaker false b c d is = refl
weaker true true c d is = absurd (let f : false ≡ true = is in cc)
weaker true false true d is = absurd (let f : false ≡ true = is in cc)
weaker true false false d is = refl

pub open-stays-held : (bounds : List ℕ) (t : ℕ) (row : AccountRow) → is_open row ≡ true → account_stays bounds t row ≡ true
unfolding hold_ended
open-stays-held bounds t row is =
    weaker (is_phase row.terms.phase Closing) (nat_eq row.terms.count 0) (nat_eq row.taken row.terms.count) (nat_le (newest row.recent + last_bound bounds) t) is

-- a row that isn't closing is open
pub not-closing : (row : AccountRow) → is_phase row.terms.phase Closing ≡ false → is_open row ≡ true
not-closing row is = rw is refl

pub phase-open : (row : AccountRow) → (row.terms.phase ≡ Tentative) ⊎ (row.terms.phase ≡ Committed) → is_open row ≡ true
phase-open row phase = not-closing row (open-phase row.terms.phase phase)

-- so it wants no entry
pub phase-listed : (bounds : List ℕ) (clock : ℕ) (entries : List Entry) (row : AccountRow) → (row.terms.phase ≡ Tentative) ⊎ (row.terms.phase ≡ Committed) → IsListed bounds clock entries row
phase-listed bounds clock entries row phase = record {
  plans_none = λ is. absurd (let f : false ≡ true = sym (open-phase row.terms.phase phase) ∙ is in cc);
  told = λ t from gone. absurd (let f : true ≡ false = sym (open-stays-held bounds t row (phase-open row phase)) ∙ gone in cc);
}

-- nor does an open one that plans nothing
pub open-listed : (bounds : List ℕ) (clock : ℕ) (entries : List Entry) (row : AccountRow) → (is_phase row.terms.phase Closing ≡ true → length row.left ≡ 0) → is_open row ≡ true → IsListed bounds clock entries row
open-listed bounds clock entries row none is = record {
  plans_none = none;
  told = λ t from gone. absurd (let f : true ≡ false = sym (open-stays-held bounds t row is) ∙ gone in cc);
}

-- a later clock changes nothing
pub listed-later : (bounds : List ℕ) (clock later : ℕ) (entries : List Entry) (row : AccountRow) → clock ≤ later → IsListed bounds clock entries row → IsListed bounds later entries row
listed-later bounds clock later entries row less listed = record {
  plans_none = listed.plans_none;
  told = λ t from gone. listed.told t (omega (arith, less, from)) gone;
}

-- an entry of another channel, or for a tick by which the hold hasn't ended, isn't missed
pub or-other : (a b c : Bool) → b ≡ false → (a || (b || c)) ≡ (a || c)
or-other true b c is = refl
or-other false b c is = rw is refl

pub listed-without : (bounds : List ℕ) (clock : ℕ) (before after : List Entry) (entry : Entry) (row : AccountRow) → ((t : ℕ) → tells_end bounds t row entry ≡ false) → IsListed bounds clock (before ++ entry ∷ after) row → IsListed bounds clock (before ++ after) row
listed-without bounds clock before after entry row other listed = record {
  plans_none = listed.plans_none;
  told = λ t from gone.
      list_any-append (tells_end bounds t row) before after
      ∙ sym (or-other (list_any (tells_end bounds t row) before) (tells_end bounds t row entry) (list_any (tells_end bounds t row) after) (other t))
      ∙ sym (list_any-append (tells_end bounds t row) before (entry ∷ after))
      ∙ listed.told t from gone;
}

-- the hold of a row that brings no packet ends at once
shut : (a b c : Bool) → a ≡ true → (b || c) ≡ true → not (a && (b || c)) ≡ false
shut a b c closing is = rw (closing, is) refl

pub ends-at-once : (bounds : List ℕ) (clock : ℕ) (row : AccountRow) → row.terms.phase ≡ Closing → row.terms.count ≡ 0 → EndsBy bounds clock row clock
unfolding hold_ended
ends-at-once bounds clock row phase none =
    let closing : is_phase row.terms.phase Closing ≡ true = ap (λ phase. is_phase phase Closing) phase in
    let zero = eq-eqb row.terms.count 0 none in
    record {
      taken = rw (closing, zero) refl;
      from = omega arith;
      ended = rw (closing, zero) refl;
      least = λ t from gone. from;
    }

-- that of one whose packets were all taken ends once the last bound has passed
ended-by : (count taken last bound t : ℕ) → (count ≡ 0 → ⊥) → not (nat_eq count 0 || (nat_eq taken count && nat_le (last + bound) t)) ≡ false → last + bound ≤ t
ended-by count taken last bound t some gone =
    ⊎_elim (λ (zero : nat_eq count 0 ≡ true). absurd (some (eqb-true count 0 zero)))
    (λ (more : nat_eq count 0 ≡ false). leb-true (last + bound) t (and_parts (nat_eq taken count) (nat_le (last + bound) t) (not-false (nat_eq taken count && nat_le (last + bound) t) (rw more at gone))).1)
    (cases_Bool (nat_eq count 0)) where
      not-false : (b : Bool) → not b ≡ false → b ≡ true
      not-false true is = refl
      not-false false is = absurd (let f : true ≡ false = is in cc)

pub ends-after : (bounds : List ℕ) (clock tick : ℕ) (row : AccountRow) → row.terms.phase ≡ Closing → (row.terms.count ≡ 0 → ⊥) → row.taken ≡ row.terms.count → clock ≤ tick → newest row.recent + last_bound bounds ≤ tick
    → ((t : ℕ) → clock ≤ t → newest row.recent + last_bound bounds ≤ t → tick ≤ t) → EndsBy bounds clock row tick
unfolding hold_ended
ends-after bounds clock tick row phase some all from over least =
    let closing : is_phase row.terms.phase Closing ≡ true = ap (λ phase. is_phase phase Closing) phase in
    let every = eq-eqb row.taken row.terms.count all in
    let past = le-leb (newest row.recent + last_bound bounds) tick over in
    record {
      taken = shut (is_phase row.terms.phase Closing) (nat_eq row.terms.count 0) (nat_eq row.taken row.terms.count) closing (rw every (or_right (nat_eq row.terms.count 0) true refl));
      from = from;
      ended = shut (is_phase row.terms.phase Closing) (nat_eq row.terms.count 0) (nat_eq row.taken row.terms.count && nat_le (newest row.recent + last_bound bounds) tick) closing (rw (every, past) (or_right (nat_eq row.terms.count 0) true refl));
      least = λ t later gone. least t later (ended-by row.terms.count row.taken (newest row.recent) (last_bound bounds) t some (rw closing at gone));
    }

-- where an ask wants a phase, the row is in it
pub in-phase : (phase : Phase) (row : AccountRow) → None ≡ not_in_phase phase row.terms → row.terms.phase ≡ phase
in-phase phase row none = phase-is row.terms.phase phase (unless-none (is_phase row.terms.phase phase) (NotInPhase row.terms.phase) (sym none))

-- and open, if it wants one that isn't closing
pub open-in-phase : (phase : Phase) (row : AccountRow) → (phase ≡ Tentative) ⊎ (phase ≡ Committed) → None ≡ not_in_phase phase row.terms → is_open row ≡ true
open-in-phase phase row (inl is) none = phase-open row (inl (in-phase phase row none ∙ is))
open-in-phase phase row (inr is) none = phase-open row (inr (in-phase phase row none ∙ is))
