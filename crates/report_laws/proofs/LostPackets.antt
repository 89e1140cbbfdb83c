-- Each source packet that a tick drops is one that its row keeps as dropped; and of the best-effort packets whose tick is made each is
-- taken or lost.
use Rattle.std.proofs.Common.{◌≡◌, ℕ, suc, ◌+◌, Bool, true, false, List, [], ◌∷◌, ◌++◌, length, map, Option, Some, None, refl, sym, ap, ◌∙◌, arith, append-nil, length-append}
use Rattle.run_engine.proofs.Words.{lt-ltb, le-ltb, length-map, length_push, filter, find, nat_eq, nat_lt, level_number, total, Entry, Tentative, Committed, Closing, LinkShape, IsAdmissible, expires, stays, change_first, Each, Row, SourcePacket, new_row, made_by, tick_of, Scan, clock_with, clock_of, is_row_of, arrived_row, arrived_packet, with_arrival, without_expired, with_sources, with_best, best_step_at, after_tick, scan_of, Arrival, starts_below, here_at, SourceStep, Rests, step_of, row_after, taken_by, source_packets, rows_after, dropped_in}
use Rattle.std.proofs.lemmas.List.Elements.{filter-append}
use Rattle.traffic_contract.proofs.AdmissionTest.{total-append}
use Rattle.link_steps.specs.BestEffort.{is_best, best_step, best_packet, waiting_best}
use Rattle.link_steps.specs.Buffer.{has_slot}
use Rattle.link_steps.specs.Effects.{Change, Commits, Plans, Closes, Effect, Adds, Changes, Removes, Takes, Ticks, PlansBest, Nothing, changed_row, is_changed, with_effect, clock_by}
use Rattle.link_steps.specs.Rows.{is_for}
use Rattle.link_steps.specs.Sources.{Brings, Drops, source_step, packet_of, dropped_by}
use Rattle.link_steps.proofs.FoundElements.{total-change_first-ge, total-without_first-ge, total-filter-both}
use Rattle.link_steps.proofs.EntryEffects.{EffectFits, each-admissible, by-fit}
use Rattle.link_steps.proofs.LegalOrder.{legal-order}
use Rattle.link_steps.proofs.RowsInOrder.{IsInOrder, source-settled}
use Rattle.link_steps.proofs.SearchAndFilter.{Each-append, Each-change_first, Each-filter, Each-find, Each-without_first, filter-none, total-change_first-le, total-without_first-le}
use Rattle.link_steps.proofs.PlanRises.{Rises, made-next, made-rests, made-submitted, rises-submitted}
use Rattle.channel_report.specs.Links.{one_if}
use Rattle.report_laws.specs.Counts.{drops_of, dropped_packets, best_taken, best_offered}

-- ---- rows that aren't committed yet have dropped nothing, and the best-effort plan rises

abbrev IsFresh : Row → Type 0
IsFresh row = row.terms.phase ≡ Tentative → row.dropped ≡ []

record IsTold (scan : Scan) : Type 0 where
  fresh : Each IsFresh scan.rows
  rises : Rises scan.best_plan

fresh-step : (shape : LinkShape) (here : List Arrival) (t place : ℕ) (row : Row) → IsInOrder shape t row → IsFresh row → IsFresh (row_after (step_of shape.bounds here t row) t place row)
unfolding step_of
fresh-step shape here t place row order fresh = by-step (has_slot shape.bounds row.terms row.lead here) (find (is_for t) row.plan) refl where
  by-step : (slot : Bool) (found : Option SourcePacket) → find (is_for t) row.plan ≡ found → IsFresh (row_after (source_step slot found) t place row)
  by-step slot None is = fresh
  by-step true (Some p) is = fresh
  by-step false (Some p) is = λ tentative. absurd ((source-settled shape t row p is order).0 tentative)

fresh-rows : (shape : LinkShape) (here : List Arrival) (t taken : ℕ) (rows : List Row) → Each (IsInOrder shape t) rows → Each IsFresh rows → Each IsFresh (rows_after shape.bounds here t taken rows)
unfolding rows_after
fresh-rows shape here t taken [] order fresh = tt
fresh-rows shape here t taken (row ∷ rows) order fresh =
    (fresh-step shape here t (suc taken) row order.0 fresh.0, fresh-rows shape here t (taken + taken_by (step_of shape.bounds here t row)) rows order.1 fresh.1)

fresh-changed : (t : ℕ) (change : Change) (row : Row) → IsFresh row → IsFresh (changed_row t change row)
fresh-changed t (Commits level up_bound) row fresh = λ same. absurd (let clash : Committed ≡ Tentative = same in cc)
fresh-changed t (Plans count gap size) row fresh = fresh
fresh-changed t (Closes first count) row fresh = λ same. absurd (let clash : Closing ≡ Tentative = same in cc)

told-effect : (shape : LinkShape) (t : ℕ) (scan : Scan) (effect : Effect) → EffectFits shape t scan effect → Each (IsInOrder shape t) scan.rows → IsTold scan → IsTold (with_effect shape t scan effect)
unfolding with_effect with_arrival after_tick with_best with_sources without_expired
told-effect shape t scan (Adds terms) fits order told = record { fresh = Each-append IsFresh scan.rows (new_row terms ∷ []) told.fresh (λ _. refl, tt); rises = told.rises }
told-effect shape t scan (Changes chan change) fits order told =
    record { fresh = Each-change_first IsFresh (is_changed chan change) (changed_row t change) scan.rows (λ row. fresh-changed t change row) told.fresh; rises = told.rises }
told-effect shape t scan (Removes chan) fits order told = record { fresh = Each-without_first IsFresh (is_row_of chan) scan.rows told.fresh; rises = told.rises }
told-effect shape t scan (Takes packet row) fits order told =
    record { fresh = Each-change_first IsFresh (is_row_of packet.chan) (arrived_row t (suc (length scan.packets)) packet) scan.rows (λ r fresh. fresh) told.fresh; rises = told.rises }
told-effect shape t scan Ticks fits order told = record {
  fresh = fresh-rows shape (here_at shape.rate scan.packets t) t (length scan.packets) (filter (stays shape.bounds t) scan.rows)
      (Each-filter (IsInOrder shape t) (stays shape.bounds t) scan.rows order) (Each-filter IsFresh (stays shape.bounds t) scan.rows told.fresh);
  rises = told.rises;
}
told-effect shape t scan (PlansBest count gap size) fits order told =
    record { fresh = told.fresh; rises = rises-submitted t gap size count scan.best_plan fits.asked.gap_least fits.none_left told.rises }
told-effect shape t scan Nothing fits order told = told

legal-told : (shape : LinkShape) (h : List Entry) → IsAdmissible shape h → IsTold (scan_of shape h)
legal-told shape h legal =
    each-admissible (λ t scan. IsTold scan) shape (record { fresh = tt; rises = tt })
    (λ past effect may fits told. told-effect shape (clock_of past) (scan_of shape past) effect fits (legal-order shape past may).held told) h legal

-- ---- a tick: source packets

drops-step : (step : SourceStep) (t place : ℕ) (row : Row) → drops_of (row_after step t place row) ≡ drops_of row + dropped_by step
drops-step Rests t place row = omega arith
drops-step (Brings size) t place row = omega arith
drops-step Drops t place row = omega arith

drops-sources : (bounds : List ℕ) (here : List Arrival) (t taken : ℕ) (rows : List Row) → total drops_of (rows_after bounds here t taken rows) ≡ total drops_of rows + dropped_in bounds here t rows
unfolding rows_after dropped_in
drops-sources bounds here t taken [] = refl
drops-sources bounds here t taken (row ∷ rows) =
    let rest = drops-sources bounds here t (taken + taken_by (step_of bounds here t row)) rows in
    let own = drops-step (step_of bounds here t row) t (suc taken) row in
    omega (arith, rest, own)

-- the rows have dropped those of the tick, too
pub drops-tick : (shape : LinkShape) (t : ℕ) (scan : Scan) → dropped_packets (after_tick shape t scan) ≡ dropped_packets scan + dropped_in shape.bounds (here_at shape.rate scan.packets t) t (without_expired shape.bounds t scan).rows
unfolding after_tick with_best with_sources without_expired
drops-tick shape t scan =
    let both : total drops_of (filter (stays shape.bounds t) scan.rows) + total drops_of (filter (expires shape.bounds t) scan.rows) ≡ total drops_of scan.rows = total-filter-both drops_of (expires shape.bounds t) scan.rows in
    let gone = total-append drops_of scan.gone (filter (expires shape.bounds t) scan.rows) in
    let rows = drops-sources shape.bounds (here_at shape.rate scan.packets t) t (length scan.packets) (filter (stays shape.bounds t) scan.rows) in
    omega (arith, both, gone, rows)

-- ---- a tick: best-effort packets

-- packets of rows are of the link's levels
rows-bring : (shape : LinkShape) (here : List Arrival) (t taken : ℕ) (rows : List Row) → Each (IsInOrder shape t) rows → Each (λ p. is_best shape.bounds p ≡ false) (source_packets shape.bounds here t taken rows)
unfolding source_packets
rows-bring shape here t taken [] order = tt
rows-bring shape here t taken (row ∷ rows) order =
    Each-append (λ p. is_best shape.bounds p ≡ false) (packet_of (step_of shape.bounds here t row) t (suc taken) row) _
    (by-step (step_of shape.bounds here t row)) (rows-bring shape here t (taken + taken_by (step_of shape.bounds here t row)) rows order.1) where
      by-step : (step : SourceStep) → Each (λ p. is_best shape.bounds p ≡ false) (packet_of step t (suc taken) row)
      by-step (Brings size) = (le-ltb (length shape.bounds) (level_number row.terms.level) order.0.level_most, tt)
      by-step Rests = tt
      by-step Drops = tt

best-brought : (bounds : List ℕ) (place t : ℕ) (step : SourceStep) → length (filter (is_best bounds) (best_packet step bounds place t)) ≡ taken_by step
best-brought bounds place t Rests = refl
best-brought bounds place t Drops = refl
best-brought bounds place t (Brings size) = rw (lt-ltb (length bounds) (suc (length bounds)) (omega arith)) refl

pub taken-tick : (shape : LinkShape) (t : ℕ) (scan : Scan) → Each (IsInOrder shape t) scan.rows → best_taken shape (after_tick shape t scan) ≡ best_taken shape scan + taken_by (best_step_at shape t scan)
unfolding after_tick with_best with_sources without_expired
taken-tick shape t scan order =
    more scan.packets (source_packets shape.bounds (here_at shape.rate scan.packets t) t (length scan.packets) (filter (stays shape.bounds t) scan.rows)) _
    (rows-bring shape (here_at shape.rate scan.packets t) t (length scan.packets) (filter (stays shape.bounds t) scan.rows) (Each-filter (IsInOrder shape t) (stays shape.bounds t) scan.rows order))
    (best-brought shape.bounds _ t (best_step_at shape t scan)) where
      more : (before sources bests : List Arrival) → Each (λ p. is_best shape.bounds p ≡ false) sources → length (filter (is_best shape.bounds) bests) ≡ taken_by (best_step_at shape t scan)
          → length (filter (is_best shape.bounds) ((before ++ sources) ++ bests)) ≡ length (filter (is_best shape.bounds) before) + taken_by (best_step_at shape t scan)
      more before sources bests none one =
          ap length (filter-append (is_best shape.bounds) (before ++ sources) bests
          ∙ ap (λ ps. ps ++ filter (is_best shape.bounds) bests) (filter-append (is_best shape.bounds) before sources ∙ ap (λ ps. filter (is_best shape.bounds) before ++ ps) (filter-none (is_best shape.bounds) sources none) ∙ append-nil (filter (is_best shape.bounds) before)))
          ∙ length-append (filter (is_best shape.bounds) before) (filter (is_best shape.bounds) bests) ∙ ap (λ n. length (filter (is_best shape.bounds) before) + n) one

-- one that is planned for the tick is taken, or else lost
one-more : (t waiting most : ℕ) (plan : List SourcePacket) → Rises plan → length (made_by (suc t) plan) ≡ length (made_by t plan) + (taken_by (best_step waiting most t plan) + one_if (nat_eq (dropped_by (best_step waiting most t plan)) 1))
unfolding best_step
one-more t waiting most plan rises = by-step (nat_lt waiting most) (find (is_for t) plan) refl where
  planned : (p : SourcePacket) → find (is_for t) plan ≡ Some p → length (made_by (suc t) plan) ≡ length (made_by t plan) + 1
  planned p found =
      sym (length-map (made_by (suc t) plan) tick_of) ∙ ap length (made-next t plan p rises found) ∙ length_push (map tick_of (made_by t plan)) t ∙ ap (λ n. n + 1) (length-map (made_by t plan) tick_of)

  by-step : (slot : Bool) (found : Option SourcePacket) → find (is_for t) plan ≡ found
      → length (made_by (suc t) plan) ≡ length (made_by t plan) + (taken_by (source_step slot found) + one_if (nat_eq (dropped_by (source_step slot found)) 1))
  by-step slot None is = (let same = ap length (made-rests t plan is) in omega (arith, same))
  by-step true (Some p) is = planned p is
  by-step false (Some p) is = planned p is

pub offered-tick : (shape : LinkShape) (t : ℕ) (scan : Scan) → Rises scan.best_plan
    → best_offered (suc t) (after_tick shape t scan) ≡ best_offered t scan + (taken_by (best_step_at shape t scan) + one_if (nat_eq (dropped_by (best_step_at shape t scan)) 1))
unfolding after_tick with_best with_sources without_expired best_step_at
offered-tick shape t scan rises = one-more t (waiting_best shape.bounds (starts_below shape.rate scan.packets t) scan.packets) shape.best scan.best_plan rises

-- ---- the other entries

-- as many packets as before are dropped, and of the best-effort ones planned by t, and taken
pub record SameCounts (shape : LinkShape) (t : ℕ) (scan now : Scan) : Type 0 where
  pub dropped : dropped_packets now ≡ dropped_packets scan
  pub taken : best_taken shape now ≡ best_taken shape scan
  pub offered : best_offered t now ≡ best_offered t scan

-- where the row that is changed has dropped as many as before
drops-changed : (test : Row → Bool) (change : Row → Row) (rows : List Row) → ((row : Row) → drops_of (change row) ≡ drops_of row) → total drops_of (change_first test change rows) ≡ total drops_of rows
drops-changed test change rows same =
    let most = total-change_first-le drops_of test change rows (λ row found. (let is = same row in omega (arith, is))) in
    let least = total-change_first-ge drops_of test change rows (λ row found. (let is = same row in omega (arith, is))) in
    omega (arith, most, least)

arrived-low : (shape : LinkShape) (packets : List Arrival) (p : Arrival) → is_best shape.bounds p ≡ false → length (filter (is_best shape.bounds) (packets ++ p ∷ [])) ≡ length (filter (is_best shape.bounds) packets)
arrived-low shape packets p low = ap length (filter-append (is_best shape.bounds) packets (p ∷ []) ∙ rw low (append-nil (filter (is_best shape.bounds) packets)))

quiet-counts : (shape : LinkShape) (t : ℕ) (scan : Scan) (effect : Effect) → EffectFits shape t scan effect → Each (IsInOrder shape t) scan.rows → Each IsFresh scan.rows → clock_by effect t ≡ t → SameCounts shape t scan (with_effect shape t scan effect)
unfolding with_effect with_arrival
quiet-counts shape t scan (Adds terms) fits order fresh still =
    let more = total-append drops_of scan.rows (new_row terms ∷ []) in
    record { dropped = omega (arith, more); taken = refl; offered = refl }
quiet-counts shape t scan (Changes chan change) fits order fresh still =
    let same = drops-changed (is_changed chan change) (changed_row t change) scan.rows (λ row. refl) in
    record { dropped = omega (arith, same); taken = refl; offered = refl }
quiet-counts shape t scan (Removes chan) fits order fresh still =
    let most = total-without_first-le drops_of (is_row_of chan) scan.rows in
    let least = total-without_first-ge drops_of (is_row_of chan) scan.rows (λ row found. ap length (Each-find IsFresh (is_row_of chan) scan.rows row fresh found (fits row found))) in
    record { dropped = omega (arith, most, least); taken = refl; offered = refl }
quiet-counts shape t scan (Takes packet row) fits order fresh still =
    let same = drops-changed (is_row_of packet.chan) (arrived_row t (suc (length scan.packets)) packet) scan.rows (λ r. refl) in
    let own = Each-find (IsInOrder shape t) (is_row_of packet.chan) scan.rows row order fits.found in
    record {
      dropped = omega (arith, same);
      taken = arrived-low shape scan.packets (arrived_packet t (suc (length scan.packets)) packet row) (le-ltb (length shape.bounds) (level_number row.terms.level) own.level_most);
      offered = refl;
    }
quiet-counts shape t scan Ticks fits order fresh still = absurd (let same : suc t ≡ t = still in omega (arith, same))
quiet-counts shape t scan (PlansBest count gap size) fits order fresh still =
    record { dropped = refl; taken = refl; offered = ap length (made-submitted t gap size count scan.best_plan) }
quiet-counts shape t scan Nothing fits order fresh still = record { dropped = refl; taken = refl; offered = refl }

pub counts-stay : (shape : LinkShape) (e : Entry) (h : List Entry) → IsAdmissible shape (e ∷ h) → clock_with e.ask (clock_of h) ≡ clock_of h → SameCounts shape (clock_of h) (scan_of shape h) (scan_of shape (e ∷ h))
unfolding IsAdmissible clock_of
counts-stay shape e h legal still =
    by-fit (λ n now. n ≡ clock_of h → SameCounts shape (clock_of h) (scan_of shape h) now) shape h e legal.1
    (λ effect new fits same. quiet-counts shape (clock_of h) (scan_of shape h) effect fits (legal-order shape h legal.0).held (legal-told shape h legal.0).fresh same) still

-- ---- what a tick adds

pub record TickCounts (shape : LinkShape) (h : List Entry) : Type 0 where
  pub dropped : dropped_packets (after_tick shape (clock_of h) (scan_of shape h)) ≡ dropped_packets (scan_of shape h) + dropped_in shape.bounds (here_at shape.rate (scan_of shape h).packets (clock_of h)) (clock_of h) (without_expired shape.bounds (clock_of h) (scan_of shape h)).rows
  pub best : best_offered (suc (clock_of h)) (after_tick shape (clock_of h) (scan_of shape h)) + best_taken shape (scan_of shape h)
      ≡ best_offered (clock_of h) (scan_of shape h) + best_taken shape (after_tick shape (clock_of h) (scan_of shape h)) + one_if (nat_eq (dropped_by (best_step_at shape (clock_of h) (scan_of shape h))) 1)

pub tick-counts : (shape : LinkShape) (h : List Entry) → IsAdmissible shape h → TickCounts shape h
tick-counts shape h legal =
    let taken = taken-tick shape (clock_of h) (scan_of shape h) (legal-order shape h legal).held in
    let offered = offered-tick shape (clock_of h) (scan_of shape h) (legal-told shape h legal).rises in
    record { dropped = drops-tick shape (clock_of h) (scan_of shape h); best = omega (arith, taken, offered) }
