-- The calendar of plans goes with one row: as its next packet is put, as entries come, and as they are taken.
use Rattle.std.proofs.Common.{◌≡◌, ℕ, zero, suc, ◌+◌, ◌<◌, ◌≤◌, true, false, inl, inr, List, [], ◌∷◌, ◌++◌, Some, None, get_or, refl, sym, ap, ◌∙◌, subst, All, arith}
use Rattle.std.proofs.lemmas.Bool.{cases_lt, eq-eqb, ne_eqb, and_right}
use Rattle.std.proofs.lemmas.List.Folds.{list_any-append, list_any_none}
use Rattle.std.proofs.lemmas.Option.{none-some, same_Some}
use Rattle.link_server.proofs.Words.{list_any, nat_eq, find, channel_number, AccountRow, Each, Entry, row_in, ServedRow}
use Rattle.link_steps.specs.Rows.{SourcePacket, planned_from, is_for}
use Rattle.link_server.specs.Planned.{IsPlannedFrom, first_tick}
use Rattle.link_server.specs.Plans.{is_entry_of, IsTold, IsQuiet}
use Rattle.link_server.proofs.Calendars.Holds.{or-other}
use Rattle.link_server.proofs.Calendars.Quiet.{planned-quiet}

-- ---- the next packet

-- where one is left, the next one is planned for no tick before all are
pub first-from : (from tick : ℕ) (left : List SourcePacket) → Each (IsPlannedFrom from) left → first_tick left ≡ Some tick → from ≤ tick
first-from from tick [] planned first = absurd (none-some tick first)
first-from from tick (p ∷ left) planned first = subst (λ t. from ≤ t) (same_Some p.tick tick first) planned.0

-- where it is planned for a tick, one is planned for that
first-found : (tick : ℕ) (left : List SourcePacket) → first_tick left ≡ Some tick → find (is_for tick) left ≡ None → ⊥
first-found tick [] first none = none-some tick first
first-found tick (p ∷ left) first none = absurd (let is : nat_eq p.tick tick ≡ true = eq-eqb p.tick tick (same_Some p.tick tick first) in let found : Some p ≡ None = sym (rw is refl) ∙ none in cc)

-- one with no packet left wants none
pub told-none : (entries : List Entry) (row : AccountRow) → first_tick row.left ≡ None → IsTold entries row
told-none entries row none tick first = absurd (none-some tick (sym none ∙ first))

-- what is told of a row is so of one with the same packets left and of the same channel
pub told-same : (entries : List Entry) (new old : AccountRow) → new.left ≡ old.left → channel_number new.terms.chan ≡ channel_number old.terms.chan → IsTold entries old → IsTold entries new
told-same entries new old left chan told tick first =
    ap (λ channel. list_any (is_entry_of tick channel) entries) chan ∙ told tick (ap first_tick (sym left) ∙ first)

-- ---- entries that are taken

-- an entry that isn't the row's isn't missed
pub told-without : (before after : List Entry) (entry : Entry) (row : AccountRow) → ((tick : ℕ) → first_tick row.left ≡ Some tick → is_entry_of tick (channel_number row.terms.chan) entry ≡ false) → IsTold (before ++ entry ∷ after) row → IsTold (before ++ after) row
told-without before after entry row other told tick first =
    let test = is_entry_of tick (channel_number row.terms.chan) in
    list_any-append test before after
    ∙ sym (or-other (list_any test before) (test entry) (list_any test after) (other tick first))
    ∙ sym (list_any-append test before (entry ∷ after))
    ∙ told tick first

pub other-entry : (at key tick channel : ℕ) → (channel ≡ key → ⊥) → is_entry_of tick channel (at, key) ≡ false
other-entry at key tick channel apart = and_right (nat_eq at tick) (nat_eq key channel) (ne_eqb key channel (λ same. apart (sym same)))

-- nor is one that is due, where the row has no packet for the tick and none for an earlier one
early-entry : (at key tick channel clock : ℕ) → at ≤ clock → clock ≤ tick → (clock ≡ tick → ⊥) → is_entry_of tick channel (at, key) ≡ false
early-entry at key tick channel clock due from apart = rw (ne_eqb at tick (λ same. apart (omega (arith, same, due, from)))) refl

pub resting-entry : (clock at key tick : ℕ) (row : AccountRow) → Each (IsPlannedFrom clock) row.left → find (is_for clock) row.left ≡ None → at ≤ clock → first_tick row.left ≡ Some tick → is_entry_of tick (channel_number row.terms.chan) (at, key) ≡ false
resting-entry clock at key tick row ahead none due first =
    early-entry at key tick (channel_number row.terms.chan) clock due (first-from clock tick row.left ahead first)
    (λ same. first-found clock row.left (first ∙ ap Some (sym same)) none)

-- ---- where no entry is due

-- the row has no packet for the tick
not-yet : (tick channel clock : ℕ) (entry : Entry) → tick ≤ clock → clock < entry.0 → is_entry_of tick channel entry ≡ false
not-yet tick channel clock entry by past = rw (ne_eqb entry.0 tick (λ same. omega (arith, same, by, past))) refl

first-later : (clock tick : ℕ) (entries : List Entry) (row : AccountRow) → All (λ entry. clock < entry.0) entries → IsTold entries row → first_tick row.left ≡ Some tick → clock < tick
first-later clock tick entries row later told first = elim (cases_lt clock tick) [
  | inl is ↦ is
  | inr by ↦ absurd (let f : false ≡ true = sym (list_any_none (is_entry_of tick (channel_number row.terms.chan)) entries (λ k d inside. not-yet tick (channel_number row.terms.chan) clock (get_or entries k d) by (later k d inside))) ∙ told tick first in cc)
]

planned-later : (clock tick gap size count : ℕ) → ((t : ℕ) → first_tick (planned_from tick gap size count) ≡ Some t → clock < t) → Each (IsPlannedFrom (suc clock)) (planned_from tick gap size count)
unfolding planned_from
planned-later clock tick gap size zero later = tt
planned-later clock tick gap size (suc count) later =
    (let after = later tick refl in (omega (arith, after), planned-quiet (suc clock) (tick + gap) gap size count (omega (arith, after))))

pub told-quiet : (clock : ℕ) (entries : List Entry) (row : ServedRow) → All (λ entry. clock < entry.0) entries → IsTold entries (row_in row) → IsQuiet (suc clock) (row_in row)
told-quiet clock entries row later told =
    planned-later clock row.planned.tick row.planned.gap row.planned.size row.planned.count (λ tick first. first-later clock tick entries (row_in row) later told first)
