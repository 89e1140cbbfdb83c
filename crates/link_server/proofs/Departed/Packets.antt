-- Packets come: a row that takes one has one more of its own here, and no other row has.
use Rattle.std.proofs.Common.{◌≡◌, ℕ, suc, ◌+◌, ◌≤◌, ◌<◌, false, inl, inr, Some, List, [], ◌∷◌, ◌++◌, length, ⊎_elim, refl, sym, ap, ◌∙◌, subst, arith, append_assoc, append-nil}
use Rattle.std.proofs.lemmas.Bool.{cases_Bool, cases_eq, eq-eqb, eqb-false, eqb-true, ne_eqb}
use Rattle.std.proofs.lemmas.List.{length-append}
use Rattle.std.proofs.lemmas.List.Elements.{filter-append}
use Rattle.std.proofs.lemmas.Option.{same_Some}
use Rattle.link_server.proofs.Words.{filter, Each, nat_eq, channel_number, find, is_account_of, Arrival, AccountRow, SourceStep, Rests, Brings, Drops, lead_with, taken_by, account_packet, account_after_step, account_arrived, account_arrived_row, Packet}
use Rattle.link_steps.specs.Buffer.{has_lead, held_packets}
use Rattle.link_steps.specs.Account.{account_packets, account_rows_after, account_step, past_tick}
use Rattle.link_steps.proofs.SearchAndFilter.{Each-append, Each-both, Each-find, Each-if}
use Rattle.link_steps.specs.Lists.{change_first}
use Rattle.link_steps.proofs.PacketRows.{lead_with-later}
use Rattle.link_steps.proofs.RowPackets.{IsLedUpTo}
use Rattle.link_server.specs.Departed.{AreCounted, IsCounted, IsOwn}
use Rattle.link_server.specs.Sound.{IsApartFrom, HaveOwnLeads}
use Rattle.link_server.proofs.Sound.Packets.{HasLead, held-none}
use Rattle.link_server.proofs.Sound.Rows.{apart-lead_with, lead_with-first}
use Rattle.link_server.proofs.Sound.Taking.{lead_with-least, lead_with-most}
use Rattle.link_server.proofs.Sound.Sources.{step-lead, step-lead-most}

-- ---- packets of other rows

held-append : (lead : ℕ) (xs ys : List Arrival) → held_packets lead (xs ++ ys) ≡ held_packets lead xs + held_packets lead ys
unfolding held_packets
held-append lead xs ys = ap length (filter-append (has_lead lead) xs ys) ∙ length-append (filter (has_lead lead) xs) (filter (has_lead lead) ys)

-- what other rows bring is of other reservations
other-lead : (own lead place : ℕ) → (own ≡ lead → lead ≡ 0) → lead < place → nat_eq (lead_with own place) lead ≡ false
other-lead own lead place apart below =
    elim (cases_Bool (nat_eq own 0)) [
      | inl none ↦ rw none (ne_eqb place lead (λ same. omega (arith, same, below)))
      | inr some ↦ rw some (ne_eqb own lead (λ same. eqb-false own 0 some (same ∙ apart same)))
    ]

step-other : (step : SourceStep) (t taken lead : ℕ) (row : AccountRow) → IsApartFrom lead row → lead ≤ taken → held_packets lead (account_packet step t (suc taken) row) ≡ 0
unfolding held_packets
step-other Rests t taken lead row apart most = refl
step-other Drops t taken lead row apart most = refl
step-other (Brings size) t taken lead row apart most = rw (other-lead row.lead lead (suc taken) apart (omega (arith, most))) refl

rows-other : (bounds : List ℕ) (was : List Arrival) (t taken lead : ℕ) (rows : List AccountRow) → Each (IsApartFrom lead) rows → lead ≤ taken → held_packets lead (account_packets bounds was t taken rows) ≡ 0
unfolding account_packets held_packets
rows-other bounds was t taken lead [] each most = refl
rows-other bounds was t taken lead (row ∷ rows) each most =
    let step = account_step bounds was t row in
    let own = step-other step t taken lead row each.0 most in
    let rest = rows-other bounds was t (taken + taken_by step) lead rows each.1 (omega (arith, most)) in
    held-append lead (account_packet step t (suc taken) row) (account_packets bounds was t (taken + taken_by step) rows) ∙ omega (arith, own, rest)

none-own : (row : AccountRow) (more : List Arrival) → held_packets row.lead more ≡ 0 → Each (IsOwn row) more
unfolding held_packets
none-own row [] none = tt
none-own row (p ∷ more) none =
    elim (cases_Bool (nat_eq p.lead row.lead)) [
      | inl same ↦ absurd (let some = rw same at none in omega (arith, some))
      | inr other ↦ ((λ same. absurd (eqb-false p.lead row.lead other same)), none-own row more (rw other at none))
    ]

pub counted-more : (here more : List Arrival) (row : AccountRow) (n : ℕ) → held_packets row.lead more ≡ 0 → IsCounted here row n → IsCounted (here ++ more) row n
counted-more here more row n none counted = record {
  taken = (let all = counted.taken in omega (arith, all, held-append row.lead here more, none));
  own = Each-append (IsOwn row) here more counted.own (none-own row more none);
}

pub still-counted : (here more : List Arrival) (rows : List AccountRow) (ns : List ℕ) → Each (λ row. held_packets row.lead more ≡ 0) rows → AreCounted here rows ns → AreCounted (here ++ more) rows ns
still-counted here more [] [] none each = tt
still-counted here more (row ∷ rows) (n ∷ ns) none each = (counted-more here more row n none.0 each.0, still-counted here more rows ns none.1 each.1)
still-counted here more [] (n ∷ ns) none each = absurd each
still-counted here more (row ∷ rows) [] none each = absurd each

-- ---- a new row

pub new-counted : (here : List Arrival) (row : AccountRow) (n : ℕ) → Each HasLead here → row.lead ≡ 0 → row.taken ≡ 0 → n ≡ 0 → IsCounted here row n
new-counted here row n leads lead taken none =
    let held = ap (λ l. held_packets l here) lead ∙ held-none here leads in
    record { taken = omega (arith, none, held, taken); own = none-own row here held }

-- ---- a packet of the row

-- no packet that was here before has the lead that its first packet gives to a row
led-before : (taken lead : ℕ) (q : Arrival) → IsLedUpTo taken q → q.lead ≡ lead_with lead (suc taken) → q.lead ≡ lead
led-before taken lead q led same =
    ⊎_elim
    (λ (none : lead ≡ 0). absurd (let most = led.upto in omega (arith, most, same, lead_with-first lead (suc taken) none)))
    (λ (some : lead ≡ 0 → ⊥). same ∙ lead_with-later lead (suc taken) (omega arith))
    (cases_eq lead 0)

held-lead_with : (taken lead : ℕ) (here : List Arrival) → Each (IsLedUpTo taken) here → held_packets (lead_with lead (suc taken)) here ≡ held_packets lead here
unfolding held_packets
held-lead_with taken lead [] led = refl
held-lead_with taken lead (q ∷ here) led =
    let rest = held-lead_with taken lead here led.1 in
    elim (cases_Bool (nat_eq q.lead lead)) [
      | inl same ↦ rw (same, eq-eqb q.lead (lead_with lead (suc taken)) (let is = eqb-true q.lead lead same in let some = led.0.some in is ∙ sym (lead_with-later lead (suc taken) (omega (arith, some, is))))) (ap suc rest)
      | inr other ↦ rw (other, ne_eqb q.lead (lead_with lead (suc taken)) (λ same. eqb-false q.lead lead other (led-before taken lead q led.0 same))) rest
    ]

counted-one : (here : List Arrival) (row new : AccountRow) (n taken : ℕ) (p : Arrival) → Each (IsLedUpTo taken) here → p.lead ≡ lead_with row.lead (suc taken) → channel_number p.chan ≡ channel_number row.terms.chan
    → new.lead ≡ p.lead → new.taken ≡ suc row.taken → new.terms.chan ≡ row.terms.chan → IsCounted here row n → IsCounted (here ++ p ∷ []) new n
unfolding held_packets
counted-one here row new n taken p led lead chan same more terms counted =
    let was = counted.taken in
    let before = ap (λ l. held_packets l here) (same ∙ lead) ∙ held-lead_with taken row.lead here led in
    let one : held_packets new.lead (p ∷ []) ≡ 1 = rw (eq-eqb p.lead new.lead (sym same)) refl in
    record {
      taken = omega (arith, was, more, held-append new.lead here (p ∷ []), before, one);
      own = Each-append (IsOwn new) here (p ∷ [])
          (Each-if (λ q. IsLedUpTo taken q × IsOwn row q) (IsOwn new) here (λ q both its. both.1 (led-before taken row.lead q both.0 (its ∙ same ∙ lead)) ∙ sym (ap channel_number terms)) (Each-both (IsLedUpTo taken) (IsOwn row) here led counted.own))
          ((λ _. chan ∙ sym (ap channel_number terms)), tt);
    }

-- it is none of a row that is apart
pub held-other : (p : Arrival) (own lead taken : ℕ) → p.lead ≡ lead_with own (suc taken) → (own ≡ lead → lead ≡ 0) → lead ≤ taken → held_packets lead (p ∷ []) ≡ 0
unfolding held_packets
held-other p own lead taken is apart most = rw (is, other-lead own lead (suc taken) apart (omega (arith, most))) refl

-- ---- a packet from the link before

pub counted-arrived : (t taken : ℕ) (packet : Packet) (here : List Arrival) (rows : List AccountRow) (ns : List ℕ) (row : AccountRow) → Each (IsLedUpTo taken) here → HaveOwnLeads rows → Each (λ r. r.lead ≤ taken) rows → find (is_account_of packet.chan) rows ≡ Some row → AreCounted here rows ns
    → AreCounted (here ++ account_arrived t (suc taken) packet row ∷ []) (change_first (is_account_of packet.chan) (account_arrived_row t (suc taken) packet) rows) ns
unfolding change_first
counted-arrived t taken packet here [] [] row led apart most found each = cc
counted-arrived t taken packet here (r ∷ rows) (n ∷ ns) row led apart most found each =
    elim (cases_Bool (is_account_of packet.chan r)) [
      | inl own ↦
          (let p = account_arrived t (suc taken) packet r in
          let its : AreCounted (here ++ p ∷ []) (account_arrived_row t (suc taken) packet r ∷ rows) (n ∷ ns) = (
            counted-one here r (account_arrived_row t (suc taken) packet r) n taken p led refl refl refl refl refl each.0,
            still-counted here (p ∷ []) rows ns
                (Each-if (λ other. IsApartFrom r.lead other × (other.lead ≤ taken)) (λ other. held_packets other.lead (p ∷ []) ≡ 0) rows (λ other both. held-other p r.lead other.lead taken refl (λ same. sym same ∙ both.0 (sym same)) both.1)
                (Each-both (IsApartFrom r.lead) (λ other. other.lead ≤ taken) rows apart.0 most.1)) each.1,
          ) in
          rw own (subst (λ x. AreCounted (here ++ account_arrived t (suc taken) packet x ∷ []) (account_arrived_row t (suc taken) packet r ∷ rows) (n ∷ ns)) (same_Some r row (rw own at found)) its))
      | inr other ↦
          (let later = rw other at found in
          let p = account_arrived t (suc taken) packet row in
          let rest = counted-arrived t taken packet here rows ns row led apart.1 most.1 later each.1 in
          rw other (counted-more here (p ∷ []) r n (held-other p row.lead r.lead taken refl (Each-find (IsApartFrom r.lead) (is_account_of packet.chan) rows row apart.0 later) most.0) each.0, rest))
    ]
counted-arrived t taken packet here [] (n ∷ ns) row led apart most found each = absurd each
counted-arrived t taken packet here (r ∷ rows) [] row led apart most found each = absurd each

-- ---- the packets of the sources

step-counted : (step : SourceStep) (t taken n : ℕ) (row : AccountRow) (now : List Arrival) → Each (IsLedUpTo taken) now → IsCounted now row n → IsCounted (now ++ account_packet step t (suc taken) row) (account_after_step step t (suc taken) row) n
step-counted (Brings size) t taken n row now led counted = counted-one now row (account_after_step (Brings size) t (suc taken) row) n taken _ led refl refl refl refl refl counted
step-counted Rests t taken n row now led counted = subst (λ all. IsCounted all (past_tick t row) n) (sym (append-nil now)) (record { taken = counted.taken; own = counted.own })
step-counted Drops t taken n row now led counted = subst (λ all. IsCounted all (past_tick t row) n) (sym (append-nil now)) (record { taken = counted.taken; own = counted.own })

step-led : (step : SourceStep) (t taken : ℕ) (row : AccountRow) → row.lead ≤ taken → Each (IsLedUpTo (taken + taken_by step)) (account_packet step t (suc taken) row)
step-led (Brings size) t taken row most = (record { some = lead_with-least row.lead (suc taken) (omega arith); upto = lead_with-most row.lead (suc taken) (taken + 1) (omega (arith, most)) (omega arith) }, tt)
step-led Rests t taken row most = tt
step-led Drops t taken row most = tt

pub counted-brought : (bounds : List ℕ) (was : List Arrival) (t taken : ℕ) (rows : List AccountRow) (ns : List ℕ) (now : List Arrival) → Each (IsLedUpTo taken) now → HaveOwnLeads rows → Each (λ row. row.lead ≤ taken) rows → AreCounted now rows ns
    → AreCounted (now ++ account_packets bounds was t taken rows) (account_rows_after bounds was t taken rows) ns
unfolding account_packets account_rows_after
counted-brought bounds was t taken [] [] now led apart most each = tt
counted-brought bounds was t taken (row ∷ rows) (n ∷ ns) now led apart most each =
    let step = account_step bounds was t row in
    let own = account_packet step t (suc taken) row in
    let after = account_after_step step t (suc taken) row in
    let count = taken + taken_by step in
    let more = account_packets bounds was t count rows in
    let below = Each-if (λ r. r.lead ≤ taken) (λ r. r.lead < suc taken) rows (λ r upto. omega (arith, upto)) most.1 in
    let others = step-lead (λ l. Each (IsApartFrom l) rows) t (suc taken) row step apart.0 (apart-lead_with (suc taken) row.lead rows below apart.0) in
    let its = counted-more (now ++ own) more after n (rows-other bounds was t count after.lead rows others (step-lead-most t taken row step most.0)) (step-counted step t taken n row now led each.0) in
    let still = still-counted now own rows ns
    (Each-if (λ r. IsApartFrom row.lead r × (r.lead ≤ taken)) (λ r. held_packets r.lead own ≡ 0) rows (λ r both. step-other step t taken r.lead row (λ same. sym same ∙ both.0 (sym same)) both.1)
    (Each-both (IsApartFrom row.lead) (λ r. r.lead ≤ taken) rows apart.0 most.1)) each.1 in
    let rest = counted-brought bounds was t count rows ns (now ++ own) (Each-append (IsLedUpTo count) now own (Each-if (IsLedUpTo taken) (IsLedUpTo count) now (λ q is. record { some = is.some; upto = (let most = is.upto in omega (arith, most)) }) led) (step-led step t taken row most.0)) apart.1
    (Each-if (λ r. r.lead ≤ taken) (λ r. r.lead ≤ count) rows (λ r upto. omega (arith, upto)) most.1) still in
    subst (λ all. AreCounted all (after ∷ account_rows_after bounds was t count rows) (n ∷ ns)) (append_assoc now own more) (its, rest)
counted-brought bounds was t taken [] (n ∷ ns) now led apart most each = absurd each
counted-brought bounds was t taken (row ∷ rows) [] now led apart most each = absurd each
