-- What the packets of an admissible history bring into a window is at most what the eligible ticks of its rows, held or gone,
-- bring: each of these ticks in the window is one packet of the row's level, no larger than the contract's largest.
use Rattle.std.proofs.Common.{◌≡◌, ℕ, suc, ◌+◌, ◌*◌, ◌≤◌, Bool, true, false, cond, ◌&&◌, List, [], ◌∷◌, ◌++◌, length, Option, Some, None, refl, arith, length-append}
use Rattle.std.proofs.lemmas.Bool.{lt-leb}
use Rattle.std.proofs.lemmas.List.{reverse-append}
use Rattle.std.proofs.lemmas.List.Elements.{filter-append}
use Rattle.std.proofs.Math.Nat.{mul-le-mul_right}
use Rattle.std.specs.Prelude.{filter, find, reverse, nat_le}
use Rattle.net_units.specs.Numbers.{level_number}
use Rattle.net_units.specs.Quotient.{ceil_quotient}
use Rattle.traffic_contract.specs.Admission.{total, work_in, work_up_to}
use Rattle.traffic_contract.specs.Contract.{most_in}
use Rattle.traffic_contract.specs.Window.{is_in_window as is_tick_in, count_in}
use Rattle.traffic_contract.proofs.AdmissionTest.{total-append}
use Rattle.traffic_contract.proofs.BurstIsPositive.{burst-least}
use Rattle.traffic_contract.proofs.LongerWindows.{ceil_quotient-mono}
use Rattle.traffic_contract.proofs.NewestFirst.{Decides-keeps_newest_first}
use Rattle.traffic_contract.proofs.WindowsAreBounded.{count_in-le}
use Rattle.link_steps.specs.declared.asks.Packet.{Packet}
use Rattle.link_steps.specs.declared.replies.Entry.{Entry}
use Rattle.link_steps.specs.declared.shape.LinkShape.{LinkShape}
use Rattle.link_steps.specs.Admissible.{IsAdmissible}
use Rattle.link_steps.specs.BusyPeriod.{window_work}
use Rattle.link_steps.specs.BestEffort.{level_below, best_packet}
use Rattle.link_steps.specs.Buffer.{has_slot}
use Rattle.link_steps.specs.Hold.{expires, stays}
use Rattle.link_steps.specs.Lists.{Each}
use Rattle.link_steps.specs.Reservation.{admitted}
use Rattle.link_steps.specs.Rows.{Row, SourcePacket, new_row, is_for}
use Rattle.link_steps.specs.Scan.{Scan, clock_of, is_row_of, arrived_tick, arrived_row, arrived_packet, with_arrival, without_expired, with_sources, with_best, best_step_at, after_tick, scan_of}
use Rattle.link_steps.specs.Service.{Arrival, here_at}
use Rattle.link_steps.specs.Sources.{SourceStep, Rests, Brings, Drops, arrival_at, with_packet, source_step, source_tick, step_of, packet_of, row_after, source_packets, rows_after, taken_by}
use Rattle.link_steps.specs.Effects.{Change, Commits, Plans, Closes, Effect, Adds, Changes, Removes, Takes, Ticks, changed_row, is_changed, with_effect}
use Rattle.link_steps.proofs.EntryEffects.{ChangeFits, TakeFits, EffectFits, each-admissible}
use Rattle.link_steps.proofs.FoundElements.{total-change_first-more, total-change_first-ge, total-without_first-ge, total-filter-both}
use Rattle.link_steps.proofs.LegalOrder.{ScanInOrder, legal-order}
use Rattle.link_steps.proofs.RowsInOrder.{SizeFits, IsInOrder}
use Rattle.link_steps.proofs.SearchAndFilter.{Each-find, Each-filter}

-- ---- the work of a row's ticks

-- the work that the eligible ticks of a row bring into the w ticks from u on, where its level is one of those up to m
abbrev pub row_work : ℕ → ℕ → ℕ → ℕ → Row → ℕ
row_work rate m u w row = cond (nat_le (level_number row.terms.level) m) (count_in row.ticks u w * ceil_quotient row.terms.contract.smax rate) 0

-- a row with no tick in the window brings nothing
pub row_work-none : (rate m u w : ℕ) (row : Row) → count_in row.ticks u w ≡ 0 → row_work rate m u w row ≡ 0
row_work-none rate m u w row none = rw none (zero-or (nat_le (level_number row.terms.level) m) (ceil_quotient row.terms.contract.smax rate)) where
  zero-or : (b : Bool) (work : ℕ) → cond b (0 * work) 0 ≡ 0
  zero-or true work = omega arith
  zero-or false work = refl

-- nor does a row that has no ticks at all
row_work-fresh : (rate m u w : ℕ) (row : Row) → row.ticks ≡ [] → row_work rate m u w row ≡ 0
unfolding count_in
row_work-fresh rate m u w row none = row_work-none rate m u w row (rw none refl)

-- one more packet brings no more than its tick
row_work-packet : (shape : LinkShape) (m u w place number size t e place' : ℕ) (row : Row) → size ≤ row.terms.contract.smax → row_work shape.rate m u w row + window_work shape.rate m u w (arrival_at row.terms row.lead place number size t e) ≤ row_work shape.rate m u w (with_packet place' e row)
unfolding count_in
row_work-packet shape m u w place number size t e place' row fits =
    more (nat_le (level_number row.terms.level) m) (is_tick_in u w e) (filter (is_tick_in u w) row.ticks) (ceil_quotient size shape.rate) (ceil_quotient row.terms.contract.smax shape.rate)
    (ceil_quotient-mono size row.terms.contract.smax shape.rate shape.rate_least fits) where
      more : (level inside : Bool) (ticks : List ℕ) (work most : ℕ) → work ≤ most → cond level (length ticks * most) 0 + cond (level && inside) work 0 ≤ cond level (length (cond inside (e ∷ ticks) ticks) * most) 0
      more true true ticks work most le = (let h : suc (length ticks) * most ≡ length ticks * most + most = omega arith in omega (arith, h))
      more true false ticks work most le = omega arith
      more false inside ticks work most le = omega arith

-- ---- the sources of a tick

-- what a source brings is no more than its row's new tick
work-source : (shape : LinkShape) (m u w t place : ℕ) (row : Row) (slot : Bool) (found : Option SourcePacket) → find (is_for t) row.plan ≡ found → IsInOrder shape t row → row_work shape.rate m u w row + total (window_work shape.rate m u w) (packet_of (source_step slot found) t place row) ≤ row_work shape.rate m u w (row_after (source_step slot found) t place row)
work-source shape m u w t place row slot None is order = omega arith
work-source shape m u w t place row false (Some p) is order = omega arith
work-source shape m u w t place row true (Some p) is order =
    let size = Each-find (SizeFits row.terms.contract.smax) (is_for t) row.plan p order.planned is in
    let h = row_work-packet shape m u w place (suc (length row.ticks)) p.size t (source_tick row t) place row size.size_most in
    omega (arith, h)

-- and so for all sources of a tick
work-sources : (shape : LinkShape) (m u w : ℕ) (here : List Arrival) (t taken : ℕ) (rows : List Row) → Each (IsInOrder shape t) rows → total (row_work shape.rate m u w) rows + total (window_work shape.rate m u w) (source_packets shape.bounds here t taken rows) ≤ total (row_work shape.rate m u w) (rows_after shape.bounds here t taken rows)
unfolding source_packets rows_after step_of
work-sources shape m u w here t taken [] each = omega arith
work-sources shape m u w here t taken (row ∷ rows) each =
    let first = work-source shape m u w t (suc taken) row (has_slot shape.bounds row.terms row.lead here) (find (is_for t) row.plan) refl each.0 in
    let rest = work-sources shape m u w here t (taken + taken_by (source_step (has_slot shape.bounds row.terms row.lead here) (find (is_for t) row.plan))) rows each.1 in
    let both = total-append (window_work shape.rate m u w) (packet_of (source_step (has_slot shape.bounds row.terms row.lead here) (find (is_for t) row.plan)) t (suc taken) row) (source_packets shape.bounds here t (taken + taken_by (source_step (has_slot shape.bounds row.terms row.lead here) (find (is_for t) row.plan))) rows) in
    omega (arith, first, rest, both)

-- ---- one entry

-- the packets of a scan bring no more than its rows
pub record CountsWork (shape : LinkShape) (m u w : ℕ) (scan : Scan) : Type 0 where
  pub most : total (window_work shape.rate m u w) scan.packets ≤ total (row_work shape.rate m u w) scan.rows + total (row_work shape.rate m u w) scan.gone

-- a best-effort packet is of no level up to the last
best-no_work : (shape : LinkShape) (m u w t place : ℕ) (step : SourceStep) → m ≤ length shape.bounds → total (window_work shape.rate m u w) (best_packet step shape.bounds place t) ≡ 0
best-no_work shape m u w t place Rests upto = refl
best-no_work shape m u w t place Drops upto = refl
best-no_work shape m u w t place (Brings size) upto = rw (lt-leb (level_below shape.bounds) m (omega (arith, upto))) refl

-- a tick, in which expired rows go on to count among those gone
work-tick : (shape : LinkShape) (m u w t : ℕ) (scan : Scan) → m ≤ length shape.bounds → ScanInOrder shape t scan → CountsWork shape m u w scan → CountsWork shape m u w (after_tick shape t scan)
unfolding after_tick with_best with_sources without_expired
work-tick shape m u w t scan upto order counts =
    let held = Each-filter (IsInOrder shape t) (stays shape.bounds t) scan.rows order.held in
    let brought = work-sources shape m u w (here_at shape.rate scan.packets t) t (length scan.packets) (filter (stays shape.bounds t) scan.rows) held in
    let split = total-filter-both (row_work shape.rate m u w) (expires shape.bounds t) scan.rows in
    let gone = total-append (row_work shape.rate m u w) scan.gone (filter (expires shape.bounds t) scan.rows) in
    let packets = total-append (window_work shape.rate m u w) scan.packets (source_packets shape.bounds (here_at shape.rate scan.packets t) t (length scan.packets) (filter (stays shape.bounds t) scan.rows)) in
    let before = counts.most in
    let all = total-append (window_work shape.rate m u w) (scan.packets ++ source_packets shape.bounds (here_at shape.rate scan.packets t) t (length scan.packets) (filter (stays shape.bounds t) scan.rows)) (best_packet (best_step_at shape t scan) shape.bounds (suc (length (scan.packets ++ source_packets shape.bounds (here_at shape.rate scan.packets t) t (length scan.packets) (filter (stays shape.bounds t) scan.rows)))) t) in
    let best = best-no_work shape m u w t (suc (length (scan.packets ++ source_packets shape.bounds (here_at shape.rate scan.packets t) t (length scan.packets) (filter (stays shape.bounds t) scan.rows)))) (best_step_at shape t scan) upto in
    record { most = omega (arith, brought, split, gone, packets, before, all, best) }

-- rows that bring no less
work-with : (shape : LinkShape) (m u w : ℕ) (scan : Scan) (rows : List Row) → total (row_work shape.rate m u w) scan.rows ≤ total (row_work shape.rate m u w) rows → CountsWork shape m u w scan → CountsWork shape m u w (record scan { rows = rows })
work-with shape m u w scan rows more counts = (let before = counts.most in record { most = omega (arith, more, before) })

-- a row that takes a packet
work-taken : (shape : LinkShape) (m u w t : ℕ) (packet : Packet) (scan : Scan) (row : Row) → TakeFits shape t scan packet row → CountsWork shape m u w scan → CountsWork shape m u w (with_arrival t packet scan (Some row))
unfolding with_arrival
work-taken shape m u w t packet scan row fits counts =
    let takes = fits.takes in
    let place : ℕ = suc (length scan.packets) in
    let own = row_work-packet shape m u w (suc (length scan.packets)) packet.number packet.size t (arrived_tick t packet row) (suc (length scan.packets)) row takes.fits in
    let more = total-change_first-more (row_work shape.rate m u w) (is_row_of packet.chan) (arrived_row t (suc (length scan.packets)) packet) (window_work shape.rate m u w (arrived_packet t (suc (length scan.packets)) packet row)) row scan.rows fits.found own in
    let packets = total-append (window_work shape.rate m u w) scan.packets (arrived_packet t (suc (length scan.packets)) packet row ∷ []) in
    let before = counts.most in
    record { most = omega (arith, more, packets, before) }

-- a row that is committed has no ticks, and so the change of its level takes nothing away
work-changed : (shape : LinkShape) (m u w t : ℕ) (change : Change) (row : Row) → ChangeFits shape t change row → IsInOrder shape t row → row_work shape.rate m u w row ≤ row_work shape.rate m u w (changed_row t change row)
work-changed shape m u w t (Commits level up_bound) row fits order = (let none = row_work-fresh shape.rate m u w row (order.fresh fits.offer.phase).0 in omega (arith, none))
work-changed shape m u w t (Plans count gap size) row fits order = omega arith
work-changed shape m u w t (Closes first count) row fits order = omega arith

-- each effect that fits
work-effect : (shape : LinkShape) (m u w t : ℕ) (scan : Scan) (effect : Effect) → m ≤ length shape.bounds → EffectFits shape t scan effect → ScanInOrder shape t scan → CountsWork shape m u w scan → CountsWork shape m u w (with_effect shape t scan effect)
unfolding with_effect
work-effect shape m u w t scan (Adds terms) upto fits order counts =
    (let more = total-append (row_work shape.rate m u w) scan.rows (new_row terms ∷ []) in work-with shape m u w scan _ (omega (arith, more)) counts)
work-effect shape m u w t scan (Changes chan change) upto fits order counts =
    work-with shape m u w scan _ (total-change_first-ge (row_work shape.rate m u w) (is_changed chan change) (changed_row t change) scan.rows (λ row found.
    work-changed shape m u w t change row (fits row found) (Each-find (IsInOrder shape t) (is_changed chan change) scan.rows row order.held found))) counts
work-effect shape m u w t scan (Removes chan) upto fits order counts =
    work-with shape m u w scan _ (total-without_first-ge (row_work shape.rate m u w) (is_row_of chan) scan.rows (λ row found.
    row_work-fresh shape.rate m u w row ((Each-find (IsInOrder shape t) (is_row_of chan) scan.rows row order.held found).fresh (fits row found)).0)) counts
work-effect shape m u w t scan (Takes packet row) upto fits order counts = work-taken shape m u w t packet scan row fits counts
work-effect shape m u w t scan Ticks upto fits order counts = work-tick shape m u w t scan upto order counts
work-effect shape m u w t scan _ upto fits order counts = record { most = counts.most }

-- after every admissible history the packets bring no more into a window than the ticks of the rows, held or gone
pub legal-work : (shape : LinkShape) (h : List Entry) (m u w : ℕ) → m ≤ length shape.bounds → IsAdmissible shape h → CountsWork shape m u w (scan_of shape h)
legal-work shape h m u w upto legal =
    each-admissible (λ t scan. CountsWork shape m u w scan) shape (record { most = omega arith })
    (λ past effect may fits. work-effect shape m u w (clock_of past) (scan_of shape past) effect upto fits (legal-order shape past may)) h legal

-- ---- what the contract lets a row bring

-- as many ticks fall into a window in whichever order they are listed
count-reverse : (ticks : List ℕ) (u w : ℕ) → count_in (reverse ticks) u w ≡ count_in ticks u w
unfolding count_in
count-reverse [] u w = refl
count-reverse (e ∷ ticks) u w =
    let rest = count-reverse ticks u w in
    let turned : reverse (e ∷ ticks) ≡ reverse ticks ++ e ∷ [] = reverse-append (e ∷ []) ticks in
    let parts = filter-append (is_tick_in u w) (reverse ticks) (e ∷ []) in
    let sizes = length-append (filter (is_tick_in u w) (reverse ticks)) (filter (is_tick_in u w) (e ∷ [])) in
    rw (turned, parts, sizes) (by-test (is_tick_in u w e) rest) where
      by-test : (b : Bool) → length (filter (is_tick_in u w) (reverse ticks)) ≡ length (filter (is_tick_in u w) ticks) → length (filter (is_tick_in u w) (reverse ticks)) + length (cond b (e ∷ []) []) ≡ length (cond b (e ∷ filter (is_tick_in u w) ticks) (filter (is_tick_in u w) ticks))
      by-test true rest = omega (arith, rest)
      by-test false rest = omega (arith, rest)

-- the eligible ticks of a row keep its contract, so no window has more of them than it allows
pub row-count : (shape : LinkShape) (clock u w : ℕ) (row : Row) → IsInOrder shape clock row → count_in row.ticks u w ≤ most_in row.terms.contract w
row-count shape clock u w row order =
    let some = burst-least row.terms.contract order.contract in
    let kept = (Decides-keeps_newest_first row.terms.contract row.ticks some).0 order.keeps in
    let most = count_in-le row.terms.contract (reverse row.ticks) u w order.contract kept in
    let same = count-reverse row.ticks u w in
    omega (arith, most, same)

-- a row brings no more than admission reckons
pub row_work-admitted : (shape : LinkShape) (clock m u w : ℕ) (row : Row) → IsInOrder shape clock row → row_work shape.rate m u w row ≤ work_up_to shape.rate m w (admitted row.terms)
unfolding work_up_to work_in
row_work-admitted shape clock m u w row order =
    let times : count_in row.ticks u w * ceil_quotient row.terms.contract.smax shape.rate ≤ most_in row.terms.contract w * ceil_quotient row.terms.contract.smax shape.rate = mul-le-mul_right (ceil_quotient row.terms.contract.smax shape.rate) (row-count shape clock u w row order) in
    either (nat_le (level_number row.terms.level) m) times where
      either : (b : Bool) → count_in row.ticks u w * ceil_quotient row.terms.contract.smax shape.rate ≤ most_in row.terms.contract w * ceil_quotient row.terms.contract.smax shape.rate → cond b (count_in row.ticks u w * ceil_quotient row.terms.contract.smax shape.rate) 0 ≤ cond b (most_in row.terms.contract w * ceil_quotient row.terms.contract.smax shape.rate) 0
      either true times = times
      either false times = omega arith
