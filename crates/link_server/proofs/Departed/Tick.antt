-- The rows of a sound account stay counted through a tick: packets come, and one leaves, so one more of its row has departed.
use Rattle.std.proofs.Common.{◌≡◌, ℕ, suc, ◌+◌, ◌≤◌, true, false, ◌&&◌, inl, inr, None, Some, Option, List, [], ◌∷◌, ◌++◌, length, refl, sym, subst, arith, append_assoc}
use Rattle.std.proofs.lemmas.Bool.{cases_Bool, eq-eqb, eqb-false, eqb-true, lt-ltb, ne_eqb}
use Rattle.std.proofs.Math.Bool.{and-false}
use Rattle.std.proofs.lemmas.Option.{same_Some}
use Rattle.std.specs.Option.{ForSome}
use Rattle.link_server.proofs.Words.{Each, filter, find, nat_eq, nat_lt, if◌then◌else◌, channel_number, is_account_of, is_other, Arrival, Start, Account, AccountRow, Reply, Tick, LinkShape, SourceStep, Rests, Brings, Drops, best_packet, from_sources, held_rows, account_stays}
use Rattle.link_steps.specs.Buffer.{has_lead, held_packets}
use Rattle.link_steps.specs.Account.{brought, account_after, account_after_tick, account_best, account_rows_after, leaves_by, occupies, present, still_here}
use Rattle.link_steps.proofs.SearchAndFilter.{Each-filter, Each-find, Each-if}
use Rattle.link_steps.proofs.RowPackets.{IsLedUpTo}
use Rattle.link_server.specs.Departed.{AreCounted, IsCounted, IsOwn, departed_after, leaver}
use Rattle.link_server.specs.Packets.{gone_of}
use Rattle.link_server.specs.Sound.{AreNumberedWithin, IsRunning, IsSound, IsSoundPacket, IsSoundRow, has_arrival_number, with_brought}
use Rattle.link_server.proofs.Departed.Packets.{counted-brought, still-counted}
use Rattle.link_server.proofs.Sound.Packets.{numbered-above}
use Rattle.link_server.proofs.Sound.Rows.{AreApart-filter}
use Rattle.link_server.proofs.Sound.Service.{above-others, served-running}
use Rattle.link_server.proofs.Sound.Sources.{brought-sound, sources-rows}

-- ---- a packet leaves

-- a packet with the first lead is one of those with the second, or none
abbrev one_of : ℕ → ℕ → ℕ
one_of own lead = if nat_eq own lead then 1 else 0

-- it is one of those of its lead
held-left : (start : Start) (low : ℕ) (here : List Arrival) (high : ℕ) (lead : ℕ) → AreNumberedWithin low here high → find (has_arrival_number start.packet.place) here ≡ Some start.packet → held_packets lead here ≡ held_packets lead (filter (is_other start) here) + one_of start.packet.lead lead
unfolding held_packets
held-left start low [] high lead numbered found = cc
held-left start low (p ∷ here) high lead numbered found =
    elim (cases_Bool (nat_eq start.packet.place p.place)) [
      | inl this ↦ (
          let places = eqb-true start.packet.place p.place this in
          let same : p ≡ start.packet = same_Some p start.packet (rw (eq-eqb p.place start.packet.place (sym places)) at found) in
          let others = above-others start p here places (numbered-above p.place here high numbered.1) in
          rw (this, others) (subst (λ (q : Arrival). length (filter (has_lead lead) (p ∷ here)) ≡ length (filter (has_lead lead) here) + one_of q.lead lead) same
          (elim (nat_eq p.lead lead) as (λ b. length (if b then p ∷ filter (has_lead lead) here else filter (has_lead lead) here) ≡ length (filter (has_lead lead) here) + (if b then 1 else 0)) [ true ↦ omega arith | false ↦ omega arith ])))
      | inr other ↦ (
          let rest = held-left start p.place here high lead numbered.1 (rw (ne_eqb p.place start.packet.place (λ same. eqb-false start.packet.place p.place other (sym same))) at found) in
          rw other (elim (nat_eq p.lead lead) as (λ b. length (if b then p ∷ filter (has_lead lead) here else filter (has_lead lead) here) ≡ length (if b then p ∷ filter (has_lead lead) (filter (is_other start) here) else filter (has_lead lead) (filter (is_other start) here)) + one_of start.packet.lead lead) [ true ↦ omega (arith, rest) | false ↦ omega (arith, rest) ]))
    ]

-- the row's packets are counted without it
left-counted : (start : Start) (here : List Arrival) (taken : ℕ) (row : AccountRow) (n : ℕ) → AreNumberedWithin 0 here taken → find (has_arrival_number start.packet.place) here ≡ Some start.packet → IsCounted here row n
    → IsCounted (filter (is_other start) here) row (if is_account_of start.packet.chan row && (nat_eq row.lead start.packet.lead && nat_lt n row.taken) then suc n else n)
left-counted start here taken row n numbered found counted =
    let p = start.packet in
    let all = counted.taken in
    let held = held-left start 0 here taken row.lead numbered found in
    let own = Each-filter (IsOwn row) (is_other start) here counted.own in
    elim (cases_Bool (nat_eq row.lead p.lead)) [
      | inl same ↦ (
          let lead = sym (eqb-true row.lead p.lead same) in
          let chan = Each-find (IsOwn row) (has_arrival_number p.place) here p counted.own found lead in
          let one : one_of p.lead row.lead ≡ 1 = rw (eq-eqb p.lead row.lead lead) refl in
          let some : nat_lt n row.taken ≡ true = lt-ltb n row.taken (omega (arith, all, held, one)) in
          rw (eq-eqb (channel_number row.terms.chan) (channel_number p.chan) (sym chan), same, some) (record { taken = omega (arith, all, held, one); own = own }))
      | inr other ↦ (
          let none : one_of p.lead row.lead ≡ 0 = rw (ne_eqb p.lead row.lead (λ e. eqb-false row.lead p.lead other (sym e))) refl in
          rw (other, and-false (is_account_of p.chan row)) (record { taken = omega (arith, all, held, none); own = own }))
    ]

all-left : (start : Start) (here : List Arrival) (taken : ℕ) (rows : List AccountRow) (ns : List ℕ) → AreNumberedWithin 0 here taken → find (has_arrival_number start.packet.place) here ≡ Some start.packet → AreCounted here rows ns
    → AreCounted (filter (is_other start) here) rows (departed_after (Some (gone_of start.packet)) rows ns)
all-left start here taken [] [] numbered found each = tt
all-left start here taken (row ∷ rows) (n ∷ ns) numbered found each = (left-counted start here taken row n numbered found each.0, all-left start here taken rows ns numbered found each.1)
all-left start here taken [] (n ∷ ns) numbered found each = absurd each
all-left start here taken (row ∷ rows) [] numbered found each = absurd each

-- at the end of a tick
pub counted-left : (rate t : ℕ) (on : Option Start) (here : List Arrival) (taken : ℕ) (rows : List AccountRow) (ns : List ℕ) → AreNumberedWithin 0 here taken → ForSome on (IsRunning rate t here) → AreCounted here rows ns
    → AreCounted (still_here rate t on here) rows (departed_after (leaver rate t on) rows ns)
counted-left rate t None here taken rows ns numbered running each = each
counted-left rate t (Some start) here taken rows ns numbered running each =
    elim (leaves_by rate t start) as (λ b. AreCounted (if b then filter (is_other start) here else here) rows (departed_after (if b then Some (gone_of start.packet) else None) rows ns)) [
      | true ↦ all-left start here taken rows ns numbered (running start refl).is_here each
      | false ↦ each
    ]

-- ---- a tick

-- the packets of a sound account have leads, and so have the rows
pub sound-led : (levels taken : ℕ) (here : List Arrival) → Each (IsSoundPacket levels taken) here → Each (IsLedUpTo taken) here
sound-led levels taken here each = Each-if (IsSoundPacket levels taken) (IsLedUpTo taken) here (λ p is. record { some = is.lead_least; upto = is.lead_most }) each

pub rows-led : (levels t taken : ℕ) (rows : List AccountRow) → Each (IsSoundRow levels t taken) rows → Each (λ row. row.lead ≤ taken) rows
rows-led levels t taken rows each = Each-if (IsSoundRow levels t taken) (λ row. row.lead ≤ taken) rows (λ row is. is.lead_most) each

-- a best-effort packet is of no row
best-other : (step : SourceStep) (bounds : List ℕ) (taken t lead : ℕ) → lead ≤ taken → held_packets lead (best_packet step bounds (suc taken) t) ≡ 0
unfolding held_packets
best-other (Brings size) bounds taken t lead most = rw (ne_eqb (suc taken) lead (λ same. absurd (omega (arith, same, most)))) refl
best-other Rests bounds taken t lead most = refl
best-other Drops bounds taken t lead most = refl

-- all packets of the tick have come
counted-present : (shape : LinkShape) (room : ℕ) (k : Account) (ns : List ℕ) → IsSound shape room k → AreCounted k.here (held_rows shape k) ns → AreCounted (present shape k) (account_rows_after shape.bounds k.here k.clock k.taken (held_rows shape k)) ns
counted-present shape room k ns sound each =
    let levels : ℕ = length shape.bounds in
    let rows = held_rows shape k in
    let stay = account_stays shape.bounds k.clock in
    let src = from_sources shape k in
    let count = k.taken + length src in
    let best = best_packet (account_best shape k) shape.bounds (suc count) k.clock in
    let after = account_rows_after shape.bounds k.here k.clock k.taken rows in
    let held = Each-filter (IsSoundRow levels k.clock k.taken) stay k.rows sound.rows in
    let came = counted-brought shape.bounds k.here k.clock k.taken rows ns k.here (sound-led levels k.taken k.here sound.packets) (AreApart-filter stay k.rows sound.apart) (rows-led levels k.clock k.taken rows held) each in
    let led = rows-led levels (suc k.clock) count after (sources-rows levels k.clock k.taken k.taken count shape.bounds k.here rows (omega arith) (omega arith) held) in
    subst (λ all. AreCounted all after ns) (append_assoc k.here src best)
    (still-counted (k.here ++ src) best after ns (Each-if (λ row. row.lead ≤ count) (λ row. held_packets row.lead best ≡ 0) after (λ row most. best-other (account_best shape k) shape.bounds count k.clock row.lead most) led) came)

-- and so one has left, if one does
pub tick-counted : (shape : LinkShape) (room : ℕ) (k : Account) (ns : List ℕ) → IsSound shape room k → AreCounted k.here (held_rows shape k) ns
    → AreCounted (still_here shape.rate k.clock (occupies shape k) (present shape k)) (account_rows_after shape.bounds k.here k.clock k.taken (held_rows shape k)) (departed_after (leaver shape.rate k.clock (occupies shape k)) (account_rows_after shape.bounds k.here k.clock k.taken (held_rows shape k)) ns)
unfolding with_brought
tick-counted shape room k ns sound each =
    let taken = k.taken + length (brought shape k) in
    let served = brought-sound shape room k sound in
    let running = served-running shape (length shape.bounds) taken k.clock (present shape k) k.on served.numbered served.packets served.running in
    counted-left shape.rate k.clock (occupies shape k) (present shape k) taken _ ns served.numbered running (counted-present shape room k ns sound each)

-- where those are that are here afterwards
pub here-after : (shape : LinkShape) (k : Account) (reply : Reply) → (account_after shape k Tick reply).here ≡ still_here shape.rate k.clock (occupies shape k) (present shape k)
unfolding account_after account_after_tick
here-after shape k reply = refl
