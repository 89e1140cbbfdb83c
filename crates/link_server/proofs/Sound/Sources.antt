-- In a tick rows expire, and the sources of the others bring their packets: the account stays sound, and has room.
use Rattle.std.proofs.Common.{◌≡◌, ℕ, suc, ◌+◌, ◌<◌, ◌≤◌, Bool, true, false, List, [], ◌∷◌, ◌++◌, length, Option, Some, None, ⊎_elim, refl, sym, ap, ◌∙◌, subst, arith, append_assoc, length-append}
use Rattle.std.proofs.lemmas.Bool.{cases_eq, ltb-true}
use Rattle.link_server.proofs.Words.{find, total, LinkShape, best_packet, slots_of, has_slot, held_packets, Each, SourcePacket, is_for, left_at, Arrival, SourceStep, Rests, Brings, Drops, lead_with, source_step, taken_by}
use Rattle.traffic_contract.proofs.AdmissionTest.{total-filter-le}
use Rattle.link_steps.specs.Account.{Account, AccountRow, account_stays, account_step, account_tick, account_packet, past_tick, account_after_step, account_packets, account_rows_after, held_rows, from_sources, account_waiting, account_best, brought, present}
use Rattle.link_steps.proofs.SearchAndFilter.{Each-append, Each-filter, Each-find, Each-if}
use Rattle.link_server.specs.Sound.{places_of, places, of_channels, best_count, AreNumberedWithin, HasSize, AreAhead, IsApartFrom, HaveOwnLeads, IsSoundPacket, IsSoundRow, IsSound, with_brought}
use Rattle.link_server.proofs.Sound.Packets.{HasLead, packets-lead, numbered-append, held-more, held-taken}
use Rattle.link_server.proofs.Sound.Best.{IsChannels, held-channels, channels-more, channels-lead, best-more, account_best-is, best-numbered, best-sound, best-channels, best-upto, best-fits}
use Rattle.link_server.proofs.Sound.Rows.{AreApart-filter, apart-lead_with, lead_with-first, ahead-earlier, ahead-sizes, left-ahead}
use Rattle.link_server.proofs.Sourcing.Steps.{packet-length}
use Rattle.link_server.proofs.Sound.Taking.{lead_with-most, taken-sound, more-sound, packets-more, packet-sound, places-taken, running-more}
use Rattle.link_steps.proofs.PacketRows.{lead_with-later}

-- ---- one row

-- what a source brings has a size, and finds a slot free
abbrev pub IsStep : List ℕ → List Arrival → AccountRow → SourceStep → Type 0
IsStep bounds here row (Brings size) = (held_packets row.lead here < slots_of bounds row.terms) × (1 ≤ size) × (size ≤ 65536)
IsStep bounds here row Rests = Unit {0}
IsStep bounds here row Drops = Unit {0}

pub account_step-is : (bounds : List ℕ) (here : List Arrival) (t u : ℕ) (row : AccountRow) → AreAhead u row.left → IsStep bounds here row (account_step bounds here t row)
unfolding account_step
account_step-is bounds here t u row ahead = by-found (has_slot bounds row.terms row.lead here) refl (find (is_for t) row.left) refl where
  by-found : (slot : Bool) → has_slot bounds row.terms row.lead here ≡ slot → (found : Option SourcePacket) → find (is_for t) row.left ≡ found → IsStep bounds here row (source_step slot found)
  by-found true free None is = tt
  by-found false free None is = tt
  by-found false free (Some p) is = tt
  by-found true free (Some p) is =
      let size = Each-find HasSize (is_for t) row.left p (ahead-sizes u row.left ahead) is in
      (ltb-true (held_packets row.lead here) (slots_of bounds row.terms) free, size.least, size.most)

-- the packet, if there is one, has the next arrival number
packet-numbered : (step : SourceStep) (t taken : ℕ) (row : AccountRow) → AreNumberedWithin taken (account_packet step t (suc taken) row) (taken + taken_by step)
packet-numbered (Brings size) t taken row = (omega arith, omega arith)
packet-numbered Rests t taken row = omega arith
packet-numbered Drops t taken row = omega arith

-- its place is one of the row's free slots
step-places : (bounds : List ℕ) (here chans before after : List Arrival) (t place : ℕ) (row : AccountRow) (step : SourceStep) → ((l : ℕ) → held_packets l chans ≤ held_packets l here) → Each HasLead chans → IsStep bounds here row step → taken_by step + places_of bounds (chans ++ (before ++ (account_packet step t place row ++ after))) (account_after_step step t place row) ≤ places_of bounds chans row
step-places bounds here chans before after t place row (Brings size) less leads is =
    omega (arith, places-taken bounds chans (chans ++ (before ++ (account_packet (Brings size) t place row ++ after))) place (account_tick row t) row (omega (arith, is.0, less row.lead)) (held-taken row.lead place chans before _ after leads refl))
step-places bounds here chans before after t place row Rests less leads is = omega (arith, held-more row.lead chans (before ++ after))
step-places bounds here chans before after t place row Drops less leads is = omega (arith, held-more row.lead chans (before ++ after))

-- the row without what was planned for the tick
past-sound : (levels t taken : ℕ) (row : AccountRow) → IsSoundRow levels t taken row → IsSoundRow levels (suc t) taken (past_tick t row)
past-sound levels t taken row sound = record {
  contract = sound.contract;
  level_most = sound.level_most;
  reach_most = sound.reach_most;
  up_reach_most = sound.up_reach_most;
  up_bound_most = sound.up_bound_most;
  taken_most = sound.taken_most;
  lead_most = sound.lead_most;
  ahead = left-ahead t (suc t) row.left sound.ahead;
}

-- the row after its source's step
step-sound : (levels t before_all taken more : ℕ) (row : AccountRow) (step : SourceStep) → before_all ≤ taken → taken + taken_by step ≤ more → IsSoundRow levels t before_all row → IsSoundRow levels (suc t) more (account_after_step step t (suc taken) row)
step-sound levels t before_all taken more row (Brings size) less upto sound =
    taken-sound levels (suc t) before_all more (suc taken) (account_tick row t) (past_tick t row) (omega arith) (omega arith) (omega (arith, sound.taken_most)) (past-sound levels t before_all row sound)
step-sound levels t before_all taken more row Rests less upto sound = more-sound levels (suc t) before_all more (past_tick t row) (omega arith) (past-sound levels t before_all row sound)
step-sound levels t before_all taken more row Drops less upto sound = more-sound levels (suc t) before_all more (past_tick t row) (omega arith) (past-sound levels t before_all row sound)

-- the packet that it brings
step-packet : (levels t before_all taken more : ℕ) (bounds : List ℕ) (here : List Arrival) (row : AccountRow) (step : SourceStep) → before_all ≤ taken → taken + taken_by step ≤ more → IsStep bounds here row step → IsSoundRow levels t before_all row → Each (IsSoundPacket levels more) (account_packet step t (suc taken) row)
step-packet levels t before_all taken more bounds here row (Brings size) less upto is sound =
    (packet-sound levels t before_all more (suc taken) (suc row.taken) size t (account_tick row t) row (omega arith) (omega arith) (omega arith) is.1 is.2 sound, tt)
step-packet levels t before_all taken more bounds here row Rests less upto is sound = tt
step-packet levels t before_all taken more bounds here row Drops less upto is sound = tt

-- its lead afterwards: the one that it had, or else the new arrival number
pub step-lead : (P : ℕ → Type 0) (t place : ℕ) (row : AccountRow) (step : SourceStep) → P row.lead → P (lead_with row.lead place) → P (account_after_step step t place row).lead
step-lead P t place row (Brings size) before new = new
step-lead P t place row Rests before new = before
step-lead P t place row Drops before new = before

pub step-lead-most : (t taken : ℕ) (row : AccountRow) (step : SourceStep) → row.lead ≤ taken → (account_after_step step t (suc taken) row).lead ≤ taken + taken_by step
step-lead-most t taken row (Brings size) most = omega (arith, lead_with-most row.lead (suc taken) (suc taken) (omega arith) (omega arith))
step-lead-most t taken row Rests most = omega arith
step-lead-most t taken row Drops most = omega arith

-- ---- all rows

-- each row's step, from plans that lie ahead
abbrev pub AreSteps : List ℕ → List Arrival → ℕ → List AccountRow → Type 0
AreSteps bounds here t rows = Each (λ row. IsStep bounds here row (account_step bounds here t row)) rows

pub account_steps-are : (bounds : List ℕ) (here : List Arrival) (levels t taken : ℕ) (rows : List AccountRow) → Each (IsSoundRow levels t taken) rows → AreSteps bounds here t rows
account_steps-are bounds here levels t taken rows each =
    Each-if (IsSoundRow levels t taken) (λ row. IsStep bounds here row (account_step bounds here t row)) rows (λ row sound. account_step-is bounds here t t row sound.ahead) each

-- the packets brought take places of their rows
pub sources-places : (bounds : List ℕ) (here chans before : List Arrival) (t taken : ℕ) (rows : List AccountRow) → ((l : ℕ) → held_packets l chans ≤ held_packets l here) → Each HasLead chans → AreSteps bounds here t rows → length (account_packets bounds here t taken rows) + total (places_of bounds (chans ++ (before ++ account_packets bounds here t taken rows))) (account_rows_after bounds here t taken rows) ≤ total (places_of bounds chans) rows
unfolding account_packets account_rows_after
sources-places bounds here chans before t taken [] less leads steps = omega arith
sources-places bounds here chans before t taken (row ∷ rows) less leads steps =
    let step : SourceStep = account_step bounds here t row in
    let packet : List Arrival = account_packet (account_step bounds here t row) t (suc taken) row in
    let after : List Arrival = account_packets bounds here t (taken + taken_by (account_step bounds here t row)) rows in
    let first = step-places bounds here chans before after t (suc taken) row step less leads steps.0 in
    let rest = rw (append_assoc before packet after) at (sources-places bounds here chans (before ++ packet) t (taken + taken_by (account_step bounds here t row)) rows less leads steps.1) in
    omega (arith, first, rest, length-append packet after, packet-length step t (suc taken) row)

-- they have the next arrival numbers
pub sources-numbered : (bounds : List ℕ) (here : List Arrival) (t taken : ℕ) (rows : List AccountRow) → AreNumberedWithin taken (account_packets bounds here t taken rows) (taken + length (account_packets bounds here t taken rows))
unfolding account_packets
sources-numbered bounds here t taken [] = omega arith
sources-numbered bounds here t taken (row ∷ rows) =
    let step : SourceStep = account_step bounds here t row in
    let packet : List Arrival = account_packet (account_step bounds here t row) t (suc taken) row in
    let after : List Arrival = account_packets bounds here t (taken + taken_by (account_step bounds here t row)) rows in
    let e : taken + length (packet ++ after) ≡ taken + taken_by step + length after = omega (arith, length-append packet after, packet-length step t (suc taken) row) in
    subst (AreNumberedWithin taken (packet ++ after)) (sym e)
    (numbered-append taken (taken + taken_by step) (taken + taken_by step + length after) packet after (packet-numbered step t taken row) (sources-numbered bounds here t (taken + taken_by step) rows))

-- and are sound
pub sources-packets : (levels t before_all taken more : ℕ) (bounds : List ℕ) (here : List Arrival) (rows : List AccountRow) → before_all ≤ taken → taken + length (account_packets bounds here t taken rows) ≤ more → AreSteps bounds here t rows → Each (IsSoundRow levels t before_all) rows → Each (IsSoundPacket levels more) (account_packets bounds here t taken rows)
unfolding account_packets
sources-packets levels t before_all taken more bounds here [] less upto steps each = tt
sources-packets levels t before_all taken more bounds here (row ∷ rows) less upto steps each =
    let step : SourceStep = account_step bounds here t row in
    let packet : List Arrival = account_packet (account_step bounds here t row) t (suc taken) row in
    let after : List Arrival = account_packets bounds here t (taken + taken_by (account_step bounds here t row)) rows in
    let n = length-append packet after in
    let m = packet-length step t (suc taken) row in
    Each-append (IsSoundPacket levels more) packet after
    (step-packet levels t before_all taken more bounds here row step less (omega (arith, upto, n, m)) steps.0 each.0)
    (sources-packets levels t before_all (taken + taken_by step) more bounds here rows (omega (arith, less)) (omega (arith, upto, n, m)) steps.1 each.1)

-- the rows are sound a tick later
pub sources-rows : (levels t before_all taken more : ℕ) (bounds : List ℕ) (here : List Arrival) (rows : List AccountRow) → before_all ≤ taken → taken + length (account_packets bounds here t taken rows) ≤ more → Each (IsSoundRow levels t before_all) rows → Each (IsSoundRow levels (suc t) more) (account_rows_after bounds here t taken rows)
unfolding account_packets account_rows_after
sources-rows levels t before_all taken more bounds here [] less upto each = tt
sources-rows levels t before_all taken more bounds here (row ∷ rows) less upto each =
    let step : SourceStep = account_step bounds here t row in
    let n = length-append (account_packet (account_step bounds here t row) t (suc taken) row) (account_packets bounds here t (taken + taken_by (account_step bounds here t row)) rows) in
    let m = packet-length step t (suc taken) row in (
      step-sound levels t before_all taken more row step less (omega (arith, upto, n, m)) each.0,
      sources-rows levels t before_all (taken + taken_by step) more bounds here rows (omega (arith, less)) (omega (arith, upto, n, m)) each.1,
    )

-- leads: those that the rows had, and new ones
leads-after : (P : ℕ → Type 0) (bounds : List ℕ) (here : List Arrival) (t taken : ℕ) (rows : List AccountRow) → ((n : ℕ) → taken < n → P n) → Each (λ row. P row.lead) rows → Each (λ row. P row.lead) (account_rows_after bounds here t taken rows)
unfolding account_rows_after
leads-after P bounds here t taken [] new each = tt
leads-after P bounds here t taken (row ∷ rows) new each = (
  step-lead P t (suc taken) row (account_step bounds here t row) each.0
      (⊎_elim (λ (first : row.lead ≡ 0). subst P (sym (lead_with-first row.lead (suc taken) first)) (new (suc taken) (omega arith)))
      (λ (later : row.lead ≡ 0 → ⊥). subst P (sym (lead_with-later row.lead (suc taken) (omega arith))) each.0)
      (cases_eq row.lead 0)),
  leads-after P bounds here t (taken + taken_by (account_step bounds here t row)) rows (λ n above. new n (omega arith)) each.1,
)

-- and their leads are apart
pub sources-apart : (bounds : List ℕ) (here : List Arrival) (t taken : ℕ) (rows : List AccountRow) → Each (λ row. row.lead ≤ taken) rows → HaveOwnLeads rows → HaveOwnLeads (account_rows_after bounds here t taken rows)
unfolding account_rows_after
sources-apart bounds here t taken [] most apart = tt
sources-apart bounds here t taken (row ∷ rows) most apart =
    let step : SourceStep = account_step bounds here t row in
    let lead : ℕ = (account_after_step (account_step bounds here t row) t (suc taken) row).lead in
    let upto = step-lead-most t taken row step most.0 in
    let old : Each (IsApartFrom lead) rows = step-lead (λ n. Each (IsApartFrom n) rows) t (suc taken) row step apart.0 (apart-lead_with (suc taken) row.lead rows (Each-if (λ r. r.lead ≤ taken) (λ r. r.lead < suc taken) rows (λ r h. omega (arith, h)) most.1) apart.0) in (
      leads-after (λ n. n ≡ lead → lead ≡ 0) bounds here t (taken + taken_by step) rows (λ n above same. absurd (omega (arith, above, same, upto))) old,
      sources-apart bounds here t (taken + taken_by step) rows (Each-if (λ r. r.lead ≤ taken) (λ r. r.lead ≤ taken + taken_by step) rows (λ r h. omega (arith, h)) most.1) apart.1,
    )

-- ---- the account in the tick

-- the rows that stay held are sound
pub held-sound : (shape : LinkShape) (room : ℕ) (k : Account) → IsSound shape room k → Each (IsSoundRow (length shape.bounds) k.clock k.taken) (held_rows shape k)
held-sound shape room k sound = Each-filter (IsSoundRow (length shape.bounds) k.clock k.taken) (account_stays shape.bounds k.clock) k.rows sound.rows

-- the sources' packets are of channels
sources-channels : (bounds : List ℕ) (here : List Arrival) (levels t before_all taken : ℕ) (rows : List AccountRow) → levels ≤ length bounds → Each (IsSoundRow levels t before_all) rows → Each (IsChannels bounds) (account_packets bounds here t taken rows)
unfolding account_packets
sources-channels bounds here levels t before_all taken [] less each = tt
sources-channels bounds here levels t before_all taken (row ∷ rows) less each =
    Each-append (IsChannels bounds) (account_packet (account_step bounds here t row) t (suc taken) row) (account_packets bounds here t (taken + taken_by (account_step bounds here t row)) rows)
    (one (account_step bounds here t row))
    (sources-channels bounds here levels t before_all (taken + taken_by (account_step bounds here t row)) rows less each.1) where
      one : (step : SourceStep) → Each (IsChannels bounds) (account_packet step t (suc taken) row)
      one (Brings size) = (omega (arith, less, each.0.level_most), tt)
      one Rests = tt
      one Drops = tt

pub brought-channels : (shape : LinkShape) (room : ℕ) (k : Account) → IsSound shape room k → Each (IsChannels shape.bounds) (from_sources shape k)
brought-channels shape room k sound = sources-channels shape.bounds k.here (length shape.bounds) k.clock k.taken k.taken (held_rows shape k) (omega arith) (held-sound shape room k sound)

-- the places of the packets that are brought were places of those rows
pub brought-places : (shape : LinkShape) (room : ℕ) (k : Account) → IsSound shape room k → length (from_sources shape k) + total (places_of shape.bounds (of_channels shape.bounds k.here ++ from_sources shape k)) (account_rows_after shape.bounds k.here k.clock k.taken (held_rows shape k)) ≤ total (places_of shape.bounds (of_channels shape.bounds k.here)) (held_rows shape k)
brought-places shape room k sound =
    sources-places shape.bounds k.here (of_channels shape.bounds k.here) [] k.clock k.taken (held_rows shape k) (held-channels shape.bounds k.here) (channels-lead shape.bounds k.here (packets-lead (length shape.bounds) k.taken k.here sound.packets))
    (account_steps-are shape.bounds k.here (length shape.bounds) k.clock k.taken (held_rows shape k) (held-sound shape room k sound))

-- the best-effort packet of the tick
abbrev pub from_best : LinkShape → Account → List Arrival
from_best shape k = best_packet (account_best shape k) shape.bounds (suc (k.taken + length (from_sources shape k))) k.clock

-- the rows lie ahead of the next tick
pub brought-rows : (shape : LinkShape) (room : ℕ) (k : Account) → IsSound shape room k → Each (IsSoundRow (length shape.bounds) (suc k.clock) (k.taken + length (brought shape k))) (account_rows_after shape.bounds k.here k.clock k.taken (held_rows shape k))
brought-rows shape room k sound =
    sources-rows (length shape.bounds) k.clock k.taken k.taken (k.taken + length (brought shape k)) shape.bounds k.here (held_rows shape k) (omega arith) (omega (arith, length-append (from_sources shape k) (from_best shape k))) (held-sound shape room k sound)

-- a row that lies ahead of the next tick lies ahead of this one
row-earlier : (levels t taken : ℕ) (row : AccountRow) → IsSoundRow levels (suc t) taken row → IsSoundRow levels t taken row
row-earlier levels t taken row sound = record {
  contract = sound.contract;
  level_most = sound.level_most;
  reach_most = sound.reach_most;
  up_reach_most = sound.up_reach_most;
  up_bound_most = sound.up_bound_most;
  taken_most = sound.taken_most;
  lead_most = sound.lead_most;
  ahead = ahead-earlier (suc t) t row.left (omega arith) sound.ahead;
}

-- once the sources have brought their packets, and the best-effort packet has come, the account is sound
pub brought-sound : (shape : LinkShape) (room : ℕ) (k : Account) → IsSound shape room k → IsSound shape room (with_brought shape k)
unfolding with_brought places
brought-sound shape room k sound =
    let levels : ℕ = length shape.bounds in
    let rows : List AccountRow = held_rows shape k in
    let src : List Arrival = from_sources shape k in
    let best : List Arrival = from_best shape k in
    let chans : List Arrival = of_channels shape.bounds k.here in
    let more : ℕ = k.taken + length (brought shape k) in
    let held = held-sound shape room k sound in
    let longer = length-append k.here (brought shape k) in
    let parts = length-append src best in
    let is = account_best-is shape k sound.best_ahead in
    let of_chans = brought-channels shape room k sound in
    let front : of_channels shape.bounds (present shape k) ≡ chans ++ src =
    ap (of_channels shape.bounds) (sym (append_assoc k.here src best)) ∙ best-channels (account_best shape k) shape.bounds (k.here ++ src) (suc (k.taken + length src)) k.clock ∙ channels-more shape.bounds k.here src of_chans in
    let counted : best_count shape.bounds (present shape k) ≡ best_count shape.bounds ((k.here ++ src) ++ best) = ap (best_count shape.bounds) (sym (append_assoc k.here src best)) in
    record {
      taken_most = omega (arith, sound.taken_most, longer);
      numbered = numbered-append 0 k.taken more k.here (brought shape k) sound.numbered
          (subst (AreNumberedWithin k.taken (brought shape k)) (omega (arith, parts))
          (numbered-append k.taken (k.taken + length src) (k.taken + length src + length best) src best (sources-numbered shape.bounds k.here k.clock k.taken rows) (best-numbered (account_best shape k) shape.bounds (k.taken + length src) k.clock)));
      packets = Each-append (IsSoundPacket levels more) k.here (brought shape k) (packets-more levels k.taken more k.here (omega arith) sound.packets)
          (Each-append (IsSoundPacket levels more) src best
          (sources-packets levels k.clock k.taken k.taken more shape.bounds k.here rows (omega arith) (omega (arith, parts)) (account_steps-are shape.bounds k.here levels k.clock k.taken rows held) held)
          (best-sound (account_best shape k) shape.bounds (account_waiting shape k) shape.best (k.taken + length src) more k.clock is (omega (arith, parts))));
      apart = sources-apart shape.bounds k.here k.clock k.taken rows
          (Each-if (IsSoundRow levels k.clock k.taken) (λ row. row.lead ≤ k.taken) rows (λ row each. each.lead_most) held)
          (AreApart-filter (account_stays shape.bounds k.clock) k.rows sound.apart);
      rows = Each-if (IsSoundRow levels (suc k.clock) more) (IsSoundRow levels k.clock more) _ (row-earlier levels k.clock more) (brought-rows shape room k sound);
      fits = rw front (omega (arith, brought-places shape room k sound, total-filter-le (places_of shape.bounds chans) (account_stays shape.bounds k.clock) k.rows, length-append chans src, sound.fits));
      best_few = omega (arith, counted, best-upto (account_best shape k) shape.bounds (k.here ++ src) (suc (k.taken + length src)) k.clock, best-more shape.bounds k.here src of_chans, best-fits shape k (suc (k.taken + length src)) k.clock (account_best shape k) is sound.numbered sound.packets sound.best_few);
      best_ahead = ahead-earlier (suc k.clock) k.clock (left_at (suc k.clock) k.best_left) (omega arith) (left-ahead k.clock (suc k.clock) k.best_left sound.best_ahead);
      running = λ start on. running-more shape.rate k.clock k.here (brought shape k) start (sound.running start on);
    }
