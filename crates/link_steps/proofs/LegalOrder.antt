-- After every entry of an admissible history its rows, held or gone, are in order, its packets are ones that the link
-- carries, and the hold of the rows that are gone has ended.
use Rattle.std.proofs.Common.{nat_lt, ◌≡◌, ℕ, suc, ◌+◌, ◌<◌, ◌≤◌, Bool, true, false, ◌&&◌, List, [], ◌∷◌, ◌++◌, length, map, get_or, Option, Some, None, ⊎_elim, refl, sym, ◌∙◌, arith, subst}
use Rattle.std.proofs.lemmas.Bool.{leb-true, eqb-true, and_parts, or_cases}
use Rattle.std.specs.Prelude.{filter, find, nat_eq, nat_le}
use Rattle.net_units.specs.LevelBounds.{last_bound}
use Rattle.traffic_contract.specs.Eligible.{newest}
use Rattle.traffic_contract.specs.Keeping.{keeps_newest_first}
use Rattle.traffic_contract.proofs.LeastEligibleTick.{get_or-le-newest}
use Rattle.link_steps.specs.declared.asks.Packet.{Packet}
use Rattle.link_steps.specs.declared.replies.Entry.{Entry}
use Rattle.link_steps.specs.declared.replies.Phase.TheVariants.{Closing}
use Rattle.link_steps.specs.declared.shape.LinkShape.{LinkShape}
use Rattle.link_steps.specs.Admissible.{IsAdmissible}
use Rattle.link_steps.specs.Hold.{hold_ended, expires, stays}
use Rattle.link_steps.specs.Lists.{Each}
use Rattle.link_steps.specs.Reservation.{is_phase, Reservation}
use Rattle.link_steps.specs.Rows.{Row, SourcePacket, row_terms, new_row, is_for}
use Rattle.link_steps.specs.Scan.{Scan, clock_of, is_row_of, arrived_row, with_arrival, without_expired, with_sources, with_best, best_step_at, after_tick, scan_of}
use Rattle.link_steps.specs.Service.{Arrival, starts_below, here_at}
use Rattle.link_steps.specs.Sources.{source_step, step_of, packet_of, source_packets, taken_by}
use Rattle.link_steps.specs.BestEffort.{level_below, best_packet, best_step, waiting_best}
use Rattle.link_steps.specs.Buffer.{has_slot}
use Rattle.link_steps.specs.Effects.{Change, Commits, Plans, Closes, Effect, Adds, Changes, Removes, Takes, Ticks, PlansBest, Nothing, changed_row, is_changed, with_effect, clock_by}
use Rattle.link_steps.proofs.EntryEffects.{AddFits, ChangeFits, TakeFits, EffectFits, each-admissible}
use Rattle.link_steps.proofs.FoundElements.{Each-change_found, Each-passes}
use Rattle.link_steps.proofs.RowsInOrder.{planned-sizes, SizeFits, IsInOrder, order-packet, order-later, order-rows_after, order-relaxed, order-planned, order-closed}
use Rattle.link_steps.proofs.SearchAndFilter.{Each-append, Each-both, Each-filter, Each-find, Each-if, Each-without_first}
use Rattle.link_steps.proofs.ReservationFound.{may-reach, phase-is}
use Rattle.std.proofs.lemmas.Option.{same_Some}

-- a packet that the link carries, at one of its levels
pub record IsCarried (shape : LinkShape) (p : Arrival) : Type 0 where
  pub size_least : 1 ≤ p.size
  pub size_most : p.size ≤ shape.cap
  pub level_least : 1 ≤ p.level
  pub level_most : p.level ≤ level_below shape.bounds

-- each packet of the row was eligible for as long as the largest bound by the last tick made
abbrev pub HasExpired : LinkShape → ℕ → Row → Type 0
HasExpired shape clock row = Each (λ e. e + last_bound shape.bounds < clock) row.ticks

-- the rows and packets of a scan are in order at this clock
pub record ScanInOrder (shape : LinkShape) (clock : ℕ) (scan : Scan) : Type 0 where
  pub held : Each (IsInOrder shape clock) scan.rows
  pub gone : Each (IsInOrder shape clock) scan.gone
  pub expired : Each (HasExpired shape clock) scan.gone
  pub carried : Each (IsCarried shape) scan.packets
  pub poured : Each (SizeFits shape.cap) scan.best_plan

-- ---- expiry

-- each tick is at most the newest
pub upto-newest : (n : ℕ) (ticks : List ℕ) → ((k : ℕ) → get_or ticks k 0 ≤ n) → Each (λ e. e ≤ n) ticks
upto-newest n [] most = tt
upto-newest n (e ∷ ticks) most = (most 0, upto-newest n ticks (λ k. most (suc k)))

-- the ticks of a row whose hold has ended by t
expired-row : (shape : LinkShape) (t : ℕ) (row : Row) → IsInOrder shape t row → expires shape.bounds t row ≡ true → HasExpired shape (suc t) row
unfolding hold_ended
expired-row shape t row order ended =
    let both = and_parts (is_phase row.terms.phase Closing) _ ended in
    let closes = phase-is row.terms.phase Closing both.0 in
    let counts = order.counted closes in
    ⊎_elim
    (λ (nothing : nat_eq row.terms.count 0 ≡ true). none row.ticks (let e = eqb-true row.terms.count 0 nothing in omega (arith, e, counts)))
    (λ (last : (nat_eq (length row.ticks) row.terms.count && nat_le (newest row.ticks + last_bound shape.bounds) t) ≡ true).
    let by : newest row.ticks + last_bound shape.bounds ≤ t = leb-true (newest row.ticks + last_bound shape.bounds) t (and_parts (nat_eq (length row.ticks) row.terms.count) (nat_le (newest row.ticks + last_bound shape.bounds) t) last).1 in
    Each-if (λ e. e ≤ newest row.ticks) (λ e. e + last_bound shape.bounds < suc t) row.ticks (λ e upto. omega (arith, by, upto))
    (upto-newest (newest row.ticks) row.ticks (λ k. get_or-le-newest row.terms.contract row.ticks k order.keeps)))
    (or_cases (nat_eq row.terms.count 0) _ both.1) where
      none : (ticks : List ℕ) → length ticks ≤ 0 → Each (λ e. e + last_bound shape.bounds < suc t) ticks
      none [] few = tt
      none (e ∷ ticks) few = absurd (omega arith)

-- ---- packets

-- the link carries the packet that a source brings
carried-source : (shape : LinkShape) (t place : ℕ) (row : Row) (slot : Bool) (found : Option SourcePacket) → find (is_for t) row.plan ≡ found → IsInOrder shape t row → Each (IsCarried shape) (packet_of (source_step slot found) t place row)
carried-source shape t place row slot None is order = tt
carried-source shape t place row false (Some p) is order = tt
carried-source shape t place row true (Some p) is order =
    let size = Each-find (SizeFits row.terms.contract.smax) (is_for t) row.plan p order.planned is in
    let narrow = order.narrow in
    let most = size.size_most in
    (record { size_least = size.size_least; size_most = omega (arith, narrow, most); level_least = order.level_least; level_most = (let own = order.level_most in omega (arith, own)) }, tt)

-- and those that all sources bring in a tick
carried-sources : (shape : LinkShape) (here : List Arrival) (t taken : ℕ) (rows : List Row) → Each (IsInOrder shape t) rows → Each (IsCarried shape) (source_packets shape.bounds here t taken rows)
unfolding source_packets step_of
carried-sources shape here t taken [] each = tt
carried-sources shape here t taken (row ∷ rows) each =
    Each-append (IsCarried shape) (packet_of (source_step (has_slot shape.bounds row.terms row.lead here) (find (is_for t) row.plan)) t (suc taken) row) _
    (carried-source shape t (suc taken) row (has_slot shape.bounds row.terms row.lead here) (find (is_for t) row.plan) refl each.0)
    (carried-sources shape here t (taken + taken_by (source_step (has_slot shape.bounds row.terms row.lead here) (find (is_for t) row.plan))) rows each.1)

-- and a best-effort packet
carried-best : (shape : LinkShape) (t place waiting most : ℕ) (plan : List SourcePacket) → Each (SizeFits shape.cap) plan → Each (IsCarried shape) (best_packet (best_step waiting most t plan) shape.bounds place t)
unfolding best_step
carried-best shape t place waiting most plan poured = by-step (nat_lt waiting most) (find (is_for t) plan) refl where
  by-step : (slot : Bool) (found : Option SourcePacket) → find (is_for t) plan ≡ found → Each (IsCarried shape) (best_packet (source_step slot found) shape.bounds place t)
  by-step slot None is = tt
  by-step false (Some p) is = tt
  by-step true (Some p) is =
      let size = Each-find (SizeFits shape.cap) (is_for t) plan p poured is in
      (record { size_least = size.size_least; size_most = size.size_most; level_least = omega arith; level_most = omega arith }, tt)

-- ---- one entry

-- a tick: rows expire, and the sources of the others bring their packets
order-tick : (shape : LinkShape) (t : ℕ) (scan : Scan) → ScanInOrder shape t scan → ScanInOrder shape (suc t) (after_tick shape t scan)
unfolding after_tick with_best best_step_at with_sources without_expired
order-tick shape t scan order =
    let held = Each-filter (IsInOrder shape t) (stays shape.bounds t) scan.rows order.held in
    let ended = Each-filter (IsInOrder shape t) (expires shape.bounds t) scan.rows order.held in
    record {
      held = order-rows_after shape (here_at shape.rate scan.packets t) t (length scan.packets) (filter (stays shape.bounds t) scan.rows) held;
      gone = Each-if (IsInOrder shape t) (IsInOrder shape (suc t)) _ (order-later shape t) (Each-append (IsInOrder shape t) scan.gone _ order.gone ended);
      expired = Each-append (HasExpired shape (suc t)) scan.gone _
          (Each-if (HasExpired shape t) (HasExpired shape (suc t)) scan.gone (λ row by. Each-if (λ e. e + last_bound shape.bounds < t) (λ e. e + last_bound shape.bounds < suc t) row.ticks (λ e before. omega arith) by) order.expired)
          (Each-if (λ row. IsInOrder shape t row × (expires shape.bounds t row ≡ true)) (HasExpired shape (suc t)) _ (λ row both. expired-row shape t row both.0 both.1)
          (Each-both (IsInOrder shape t) (λ row. expires shape.bounds t row ≡ true) _ ended (Each-passes (expires shape.bounds t) scan.rows)));
      carried = Each-append (IsCarried shape) (scan.packets ++ source_packets shape.bounds (here_at shape.rate scan.packets t) t (length scan.packets) (filter (stays shape.bounds t) scan.rows)) _
          (Each-append (IsCarried shape) scan.packets _ order.carried (carried-sources shape (here_at shape.rate scan.packets t) t (length scan.packets) (filter (stays shape.bounds t) scan.rows) held))
          (carried-best shape t _ (waiting_best shape.bounds (starts_below shape.rate scan.packets t) scan.packets) shape.best scan.best_plan order.poured);
      poured = order.poured;
    }

-- the same packets and gone rows, with other rows
order-with : (shape : LinkShape) (t : ℕ) (scan : Scan) (rows : List Row) → Each (IsInOrder shape t) rows → ScanInOrder shape t scan → ScanInOrder shape t (record scan { rows = rows })
order-with shape t scan rows held order = record { held = held; gone = order.gone; expired = order.expired; carried = order.carried; poured = order.poured }

-- a new row
order-added : (shape : LinkShape) (t : ℕ) (scan : Scan) (terms : Reservation) → AddFits shape scan terms → IsInOrder shape t (new_row terms)
unfolding keeps_newest_first
order-added shape t scan terms fits = record {
  contract = fits.asked.is_contract;
  narrow = fits.may.narrow;
  level_least = terms.level.least;
  level_most = fits.may.level_most;
  reach_most = may-reach shape (map row_terms scan.rows) terms.chan terms.contract fits.delay terms.up_reach terms.level terms.reach fits.may;
  keeps = refl;
  planned = tt;
  fresh = λ _. (refl, refl);
  counted = λ closes. omega arith;
  cancelled = λ closes. tt;
}

-- a changed row
order-changed : (shape : LinkShape) (t : ℕ) (change : Change) (row : Row) → ChangeFits shape t change row → IsInOrder shape t row → IsInOrder shape t (changed_row t change row)
order-changed shape t (Commits level up_bound) row fits order = order-relaxed shape t up_bound level row fits.asked.level_most order
order-changed shape t (Plans count gap size) row fits order = order-planned shape t count gap size row fits.phase fits.asked.size_least fits.size_most order
order-changed shape t (Closes first count) row fits order = order-closed shape t count row fits.least order

-- a row that takes a packet
order-taken : (shape : LinkShape) (t : ℕ) (packet : Packet) (scan : Scan) (row : Row) → TakeFits shape t scan packet row → ScanInOrder shape t scan → ScanInOrder shape t (with_arrival t packet scan (Some row))
unfolding with_arrival
order-taken shape t packet scan row fits order =
    let own = Each-find (IsInOrder shape t) (is_row_of packet.chan) scan.rows row order.held fits.found in
    let takes = fits.takes in
    let narrow = own.narrow in
    let most = takes.fits in
    record {
      held = Each-change_found (IsInOrder shape t) (is_row_of packet.chan) (arrived_row t (suc (length scan.packets)) packet) scan.rows (λ r found r-order.
          let same : row ≡ r = same_Some row r (sym fits.found ∙ found) in
          subst (λ x. IsInOrder shape t (arrived_row t (suc (length scan.packets)) packet x)) same (order-packet shape t t (suc (length scan.packets)) packet.due row takes.settled takes.counts own)) order.held;
      gone = order.gone;
      expired = order.expired;
      carried = Each-append (IsCarried shape) scan.packets _ order.carried (record { size_least = fits.asked.size_least; size_most = omega (arith, narrow, most); level_least = own.level_least; level_most = (let upto = own.level_most in omega (arith, upto)) }, tt);
      poured = order.poured;
    }

-- each effect that fits keeps the order
order-effect : (shape : LinkShape) (t : ℕ) (scan : Scan) (effect : Effect) → EffectFits shape t scan effect → ScanInOrder shape t scan → ScanInOrder shape (clock_by effect t) (with_effect shape t scan effect)
unfolding with_effect
order-effect shape t scan (Adds terms) fits order = order-with shape t scan _ (Each-append (IsInOrder shape t) scan.rows _ order.held (order-added shape t scan terms fits, tt)) order
order-effect shape t scan (Changes chan change) fits order =
    order-with shape t scan _ (Each-change_found (IsInOrder shape t) (is_changed chan change) (changed_row t change) scan.rows (λ row found. order-changed shape t change row (fits row found)) order.held) order
order-effect shape t scan (Removes chan) fits order = order-with shape t scan _ (Each-without_first (IsInOrder shape t) (is_row_of chan) scan.rows order.held) order
order-effect shape t scan (Takes packet row) fits order = order-taken shape t packet scan row fits order
order-effect shape t scan Ticks fits order = order-tick shape t scan order
order-effect shape t scan (PlansBest count gap size) fits order = record {
  held = order.held;
  gone = order.gone;
  expired = order.expired;
  carried = order.carried;
  poured = Each-append (SizeFits shape.cap) scan.best_plan _ order.poured (planned-sizes shape.cap t gap size count fits.asked.size_least fits.size_most);
}
order-effect shape t scan Nothing fits order = order

-- and so does an admissible history
pub legal-order : (shape : LinkShape) (h : List Entry) → IsAdmissible shape h → ScanInOrder shape (clock_of h) (scan_of shape h)
legal-order shape h legal =
    each-admissible (ScanInOrder shape) shape (record { held = tt; gone = tt; expired = tt; carried = tt; poured = tt })
    (λ past effect may. order-effect shape (clock_of past) (scan_of shape past) effect) h legal
