-- The sources' steps, the next clock, and a packet from the link before leave the calendar of holds right.
use Rattle.std.proofs.Common.{◌≡◌, ℕ, suc, ◌+◌, ◌≤◌, Bool, true, false, not, ◌&&◌, ◌||◌, inl, inr, ⊎_elim, List, [], ◌∷◌, length, None, refl, sym, ap, ◌∙◌, subst, arith}
use Rattle.std.proofs.lemmas.Bool.{cases_Bool, eqb-true, le-leb, or_cases}
use Rattle.link_server.proofs.Words.{if◌then◌else◌, find, nat_eq, nat_le, Packet, Closing, has_slot, Each, is_phase, SourcePacket, is_for, left_at, Arrival, SourceStep, Rests, Brings, Drops, source_step, taken_by, Entry, Timetable}
use Rattle.link_steps.specs.declared.replies.Refusal.TheVariants.{Stray}
use Rattle.link_steps.specs.declared.replies.Why.TheVariants.{PastCount}
use Rattle.link_steps.specs.Account.{AccountRow, account_step, account_after_step, account_rows_after}
use Rattle.link_steps.specs.Refusals.{first_hop, uncommitted, wrong_number, past_count, big}
use Rattle.link_steps.proofs.RulesPassed.{unless-none}
use Rattle.link_server.specs.Holds.{is_open, open_count, open_in, IsListed, AreListed}
use Rattle.link_server.specs.Strays.{stray}
use Rattle.link_server.proofs.Replies.Arrive.{rule-kept}
use Rattle.link_server.proofs.Calendars.Holds.{not-closing, open-listed, listed-later}

-- ---- the sources' steps

-- a row that plans nothing stays as it is
no-plan : (left : List SourcePacket) → length left ≡ 0 → left ≡ []
no-plan [] none = refl
no-plan (p ∷ left) none = absurd (omega (arith, none))

pub rests : (bounds : List ℕ) (here : List Arrival) (t place : ℕ) (row : AccountRow) → length row.left ≡ 0 → account_after_step (account_step bounds here t row) t place row ≡ row
unfolding account_step
rests bounds here t place row none =
    let nothing = no-plan row.left none in
    ap (λ left. account_after_step (source_step (has_slot bounds row.terms row.lead here) (find (is_for t) left)) t place row) nothing
    ∙ ap (λ left. record row { left = left }) (ap (left_at (suc t)) nothing ∙ sym nothing)

-- a step leaves the reservation
same-phase : (step : SourceStep) (t place : ℕ) (row : AccountRow) → is_phase (account_after_step step t place row).terms.phase Closing ≡ is_phase row.terms.phase Closing
same-phase Rests t place row = refl
same-phase (Brings size) t place row = refl
same-phase Drops t place row = refl

-- so a row is open after its step where it was
step-open : (bounds : List ℕ) (here : List Arrival) (t place : ℕ) (row : AccountRow) → (is_phase row.terms.phase Closing ≡ true → length row.left ≡ 0) → is_open (account_after_step (account_step bounds here t row) t place row) ≡ is_open row
step-open bounds here t place row none =
    ⊎_elim (λ (closing : is_phase row.terms.phase Closing ≡ true). ap is_open (rests bounds here t place row (none closing)))
    (λ (other : is_phase row.terms.phase Closing ≡ false). not-closing (account_after_step (account_step bounds here t row) t place row) (same-phase (account_step bounds here t row) t place row ∙ other) ∙ sym (not-closing row other))
    (cases_Bool (is_phase row.terms.phase Closing))

step-listed : (bounds : List ℕ) (here : List Arrival) (t later place : ℕ) (entries : List Entry) (row : AccountRow) → t ≤ later → IsListed bounds t entries row → IsListed bounds later entries (account_after_step (account_step bounds here t row) t place row)
step-listed bounds here t later place entries row less listed =
    ⊎_elim (λ (closing : is_phase row.terms.phase Closing ≡ true). subst (IsListed bounds later entries) (sym (rests bounds here t place row (listed.plans_none closing))) (listed-later bounds t later entries row less listed))
    (λ (other : is_phase row.terms.phase Closing ≡ false).
    (let after : is_phase (account_after_step (account_step bounds here t row) t place row).terms.phase Closing ≡ false = same-phase (account_step bounds here t row) t place row ∙ other in
    open-listed bounds later entries (account_after_step (account_step bounds here t row) t place row) (λ is. absurd (let f : false ≡ true = sym after ∙ is in cc)) (not-closing (account_after_step (account_step bounds here t row) t place row) after)))
    (cases_Bool (is_phase row.terms.phase Closing))

-- and so for the rows
steps-listed : (bounds : List ℕ) (here : List Arrival) (t later taken : ℕ) (entries : List Entry) (rows : List AccountRow) → t ≤ later → Each (IsListed bounds t entries) rows → Each (IsListed bounds later entries) (account_rows_after bounds here t taken rows)
unfolding account_rows_after
steps-listed bounds here t later taken entries [] less listed = tt
steps-listed bounds here t later taken entries (row ∷ rows) less listed =
    (step-listed bounds here t later (suc taken) entries row less listed.0, steps-listed bounds here t later (taken + taken_by (account_step bounds here t row)) entries rows less listed.1)

steps-open : (bounds : List ℕ) (here : List Arrival) (t taken : ℕ) (entries : List Entry) (rows : List AccountRow) → Each (IsListed bounds t entries) rows → open_in (account_rows_after bounds here t taken rows) ≡ open_in rows
unfolding account_rows_after
steps-open bounds here t taken entries [] listed = refl
steps-open bounds here t taken entries (row ∷ rows) listed =
    let first = ap (λ b. if b then 1 else 0) (step-open bounds here t (suc taken) row listed.0.plans_none) in
    let rest = steps-open bounds here t (taken + taken_by (account_step bounds here t row)) entries rows listed.1 in
    ap (λ n. n + open_in (account_rows_after bounds here t (taken + taken_by (account_step bounds here t row)) rows)) first ∙ ap (λ n. open_count row + n) rest

pub listed-stepped : (bounds : List ℕ) (here : List Arrival) (t later taken : ℕ) (holds : Timetable) (rows : List AccountRow) → t ≤ later → AreListed bounds t holds rows → AreListed bounds later holds (account_rows_after bounds here t taken rows)
listed-stepped bounds here t later taken holds rows less listed = record {
  begun = (let begun = listed.begun in omega (arith, begun, less));
  listed = steps-listed bounds here t later taken holds.entries rows less listed.listed;
  room = (let same = steps-open bounds here t taken holds.entries rows listed.listed in let room = listed.room in omega (arith, same, room));
}

-- ---- a packet from the link before

-- where it isn't past the count, the row is open
within-count : (a b c d : Bool) → ((b || c) ≡ true → d ≡ true) → not (a && d) ≡ true → not (a && (b || c)) ≡ true
within-count false b c d less is = refl
within-count true false false d less is = refl
within-count true true c d less is = rw (less refl) at is
within-count true false true d less is = rw (less refl) at is

pub stray-open : (packet : Packet) (row : AccountRow) → None ≡ stray packet row.terms row.taken → is_open row ≡ true
stray-open packet row none =
    let terms = row.terms in
    let after = (rule-kept (first_hop terms) (uncommitted terms ∷ wrong_number packet.number (suc row.taken) ∷ past_count terms row.taken ∷ big terms packet.size ∷ []) none).1 in
    let numbered = (rule-kept (uncommitted terms) (wrong_number packet.number (suc row.taken) ∷ past_count terms row.taken ∷ big terms packet.size ∷ []) after).1 in
    let counted = (rule-kept (wrong_number packet.number (suc row.taken)) (past_count terms row.taken ∷ big terms packet.size ∷ []) numbered).1 in
    let within = (rule-kept (past_count terms row.taken) (big terms packet.size ∷ []) counted).0 in
    within-count (is_phase terms.phase Closing) (nat_eq terms.count 0) (nat_eq row.taken terms.count) (nat_le terms.count row.taken) past
    (unless-none (not (is_phase terms.phase Closing && nat_le terms.count row.taken)) (Stray (PastCount terms.count)) within) where
      past : (nat_eq row.terms.count 0 || nat_eq row.taken row.terms.count) ≡ true → nat_le row.terms.count row.taken ≡ true
      past is = elim (or_cases (nat_eq row.terms.count 0) (nat_eq row.taken row.terms.count) is) [
        | inl nought ↦ le-leb row.terms.count row.taken (let none = eqb-true row.terms.count 0 nought in omega (arith, none))
        | inr all ↦ le-leb row.terms.count row.taken (let same = eqb-true row.taken row.terms.count all in omega (arith, same))
      ]
