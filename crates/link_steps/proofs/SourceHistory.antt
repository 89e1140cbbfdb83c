-- The sources of an admissible history after each of its entries: those that keep their contract have lost nothing. From this
-- and the hop guarantee, the source guarantee.
use Rattle.std.proofs.Common.{◌≡◌, ℕ, suc, ◌≤◌, true, false, List, [], ◌∷◌, ◌++◌, length, map, refl, sym, ap, ◌∙◌, subst, arith, append-nil}
use Rattle.std.proofs.Math.Bool.{and_comm}
use Rattle.std.proofs.lemmas.Bool.{eq-eqb, and_parts}
use Rattle.std.specs.Prelude.{filter, reverse}
use Rattle.net_units.specs.Numbers.{level_number}
use Rattle.net_units.specs.declared.numbers.Level.{Level}
use Rattle.link_steps.specs.declared.asks.Packet.{Packet}
use Rattle.link_steps.specs.declared.replies.Entry.{Entry}
use Rattle.link_steps.specs.declared.replies.Phase.TheVariants.{Closing}
use Rattle.link_steps.specs.declared.shape.LinkShape.{LinkShape}
use Rattle.link_steps.specs.Admissible.{IsAdmissible}
use Rattle.link_steps.specs.BestEffort.{best_packet, best_arrival}
use Rattle.link_steps.specs.Sources.{SourceStep, Rests, Brings, Drops}
use Rattle.link_steps.specs.Buffer.{has_lead, held_packets}
use Rattle.link_steps.specs.HopGuarantee.{LeavesInTime, HasLeftInTime}
use Rattle.link_steps.specs.Hold.{hold_ended, expires, stays}
use Rattle.link_steps.specs.Belonging.{eligible_of, own_packets}
use Rattle.link_steps.specs.Lists.{Each}
use Rattle.link_steps.specs.Reservation.{Reservation, is_phase}
use Rattle.link_steps.specs.Rows.{Row, new_row, is_before, left_at, tick_of}
use Rattle.link_steps.specs.Scan.{Scan, clock_of, relax_row, plan_row, close_row, arrived_packet, arrived_row, with_arrival, without_expired, with_sources, with_best, best_step_at, after_tick, scan_of, starts_of}
use Rattle.link_steps.specs.Service.{Arrival, starts_below, here_at, is_here}
use Rattle.link_steps.specs.SourceGuarantee.{arrival_of, IsEligibleAtOnce, LeavesPromptly, HasLeftPromptly, KeepingIsServed, SourceGuarantee}
use Rattle.link_steps.specs.Effects.{Change, Commits, Plans, Closes, Effect, Ticks, changed_row, with_effect, clock_by}
use Rattle.link_steps.proofs.EntryEffects.{ChangeFits, EffectFits, each-admissible}
use Rattle.link_steps.proofs.FoundElements.{Each-passes, Each-if_passes}
use Rattle.link_steps.proofs.HopHolds.{guaranteed}
use Rattle.link_steps.proofs.LegalOrder.{ScanInOrder, legal-order}
use Rattle.link_steps.proofs.RowsInOrder.{IsInOrder, IsMade}
use Rattle.link_steps.proofs.SearchAndFilter.{Each-append, Each-both, Each-filter, Each-find, Each-from, Each-if, map-same, filter-same, filter-filter}
use Rattle.link_steps.proofs.PlanRises.{rises-submitted, made-submitted, rises-filter, made-closed}
use Rattle.link_steps.proofs.ReservationFound.{phase-is}
use Rattle.link_steps.proofs.RowPackets.{IsHeld, IsBeside, RowsStand, stand-sources}
use Rattle.link_steps.proofs.RowsStanding.{stand-apart, stand-if, stand-expired, StaysWithEffects, stand-effect}
use Rattle.link_steps.proofs.ServiceStarts.{starts-fact}
use Rattle.link_steps.proofs.SourcesServed.{HasSource, IsReady, served-same, source-later, ticks-more, source-step}

-- all that is planned for a row is made
abbrev AllMade : ℕ → Row → Type 0
AllMade clock row = Each (IsMade clock) row.plan

-- the rows of a scan and their packets, with what their sources have got
pub record ScanServed (clock : ℕ) (scan : Scan) : Type 0 where
  pub stand : RowsStand (HasSource clock) (HasSource clock) scan.packets scan.gone scan.rows
  pub made : Each (AllMade clock) scan.gone

-- ---- a tick

-- the packets of a row that are here
pub held-here : (shape : LinkShape) (packets : List Arrival) (t lead : ℕ) → held_packets lead (here_at shape.rate packets t) ≡ length (filter (is_here shape.rate (starts_below shape.rate packets t) t) (filter (has_lead lead) packets))
unfolding held_packets here_at
held-here shape packets t lead =
    ap length (filter-filter (has_lead lead) (is_here shape.rate (starts_below shape.rate packets t) t) packets
    ∙ filter-same _ _ packets (Each-from _ packets (λ p. and_comm (is_here shape.rate (starts_below shape.rate packets t) t p) (has_lead lead p)))
    ∙ sym (filter-filter (is_here shape.rate (starts_below shape.rate packets t) t) (has_lead lead) packets))

-- nothing is left of the plan of a row that expires
expired-made : (shape : LinkShape) (t : ℕ) (row : Row) → IsInOrder shape t row → expires shape.bounds t row ≡ true → AllMade t row
unfolding hold_ended
expired-made shape t row order ended = order.cancelled (phase-is row.terms.phase Closing (and_parts (is_phase row.terms.phase Closing) _ ended).0)

-- a best-effort packet is none of a row's
pub stand-best : (P : Row → List Arrival → Type 0) (bounds : List ℕ) (t : ℕ) (step : SourceStep) (packets : List Arrival) (others rows : List Row) → RowsStand P P packets others rows → RowsStand P P (packets ++ best_packet step bounds (suc (length packets)) t) others rows
stand-best P bounds t Rests packets others rows stand = rw (append-nil packets) stand
stand-best P bounds t Drops packets others rows stand = rw (append-nil packets) stand
stand-best P bounds t (Brings size) packets others rows stand = stand-apart P packets others rows (best_arrival bounds (suc (length packets)) size t) refl stand

served-tick : (shape : LinkShape) (t : ℕ) (scan : Scan) → ScanInOrder shape t scan → Each (HasLeftInTime shape t (starts_below shape.rate scan.packets t)) scan.packets → ScanServed t scan → ScanServed (suc t) (after_tick shape t scan)
unfolding after_tick with_best with_sources without_expired
served-tick shape t scan order left served =
    let made : Each (AllMade t) (scan.gone ++ filter (expires shape.bounds t) scan.rows) =
    Each-append (AllMade t) scan.gone (filter (expires shape.bounds t) scan.rows) served.made
    (Each-if (λ row. IsInOrder shape t row × (expires shape.bounds t row ≡ true)) (AllMade t) (filter (expires shape.bounds t) scan.rows) (λ row both. expired-made shape t row both.0 both.1)
    (Each-both (IsInOrder shape t) (λ row. expires shape.bounds t row ≡ true) (filter (expires shape.bounds t) scan.rows) (Each-filter (IsInOrder shape t) (expires shape.bounds t) scan.rows order.held) (Each-passes (expires shape.bounds t) scan.rows))) in
    let ready = stand-if (HasSource t) (HasSource t) (HasSource (suc t)) (IsReady shape (starts_below shape.rate scan.packets t) (here_at shape.rate scan.packets t) t) (AllMade t) (IsInOrder shape t) scan.packets
    (scan.gone ++ filter (expires shape.bounds t) scan.rows) (filter (stays shape.bounds t) scan.rows)
    (λ row all source. source-later t row (own_packets row scan.packets) all source)
    (λ row own source. record {
      order = own;
      source = source;
      held = held-here shape scan.packets t row.lead;
      left = Each-filter (HasLeftInTime shape t (starts_below shape.rate scan.packets t)) (has_lead row.lead) scan.packets left;
    })
    made (Each-filter (IsInOrder shape t) (stays shape.bounds t) scan.rows order.held)
    (stand-expired (HasSource t) (expires shape.bounds t) scan.packets scan.gone scan.rows served.stand) in
    let stand = stand-sources (HasSource (suc t)) (IsReady shape (starts_below shape.rate scan.packets t) (here_at shape.rate scan.packets t) t) shape.bounds (here_at shape.rate scan.packets t) t
    (λ row own place is. source-step shape (starts_below shape.rate scan.packets t) (here_at shape.rate scan.packets t) t row own place is)
    (filter (stays shape.bounds t) scan.rows) (scan.gone ++ filter (expires shape.bounds t) scan.rows) scan.packets (length scan.packets) refl ready in
    record {
      stand = stand-best (HasSource (suc t)) shape.bounds t (best_step_at shape t scan) _ _ _ stand;
      made = Each-if (AllMade t) (AllMade (suc t)) (scan.gone ++ filter (expires shape.bounds t) scan.rows)
          (λ row all. Each-if (IsMade t) (IsMade (suc t)) row.plan (λ p before. omega (arith, before)) all) made;
    }

-- ---- the other entries

-- a row without packets
source-new : (t : ℕ) (terms : Reservation) → HasSource t (new_row terms) []
source-new t terms = record {
  eligible = refl;
  levels = tt;
  rises = tt;
  served = λ kept. record { none_dropped = refl; as_offered = refl; at_once = tt };
}

-- a row without eligible ticks has no packets
pub no-packets : (own : List Arrival) → map eligible_of own ≡ [] → own ≡ []
no-packets [] none = refl
no-packets (p ∷ own) none = cc

-- a relax of a row without packets
source-relaxed : (t up_bound : ℕ) (level : Level) (row : Row) (own : List Arrival) → row.ticks ≡ [] → HasSource t row own → HasSource t (relax_row level up_bound row) own
source-relaxed t up_bound level row own none source = record {
  eligible = source.eligible;
  levels = subst (Each (λ p. p.level ≡ level_number level)) (sym (no-packets own (sym source.eligible ∙ ap reverse none))) tt;
  rises = source.rises;
  served = served-same t t row (relax_row level up_bound row) own refl refl refl refl refl source.served;
}

-- a submit where nothing is left
source-planned : (t count gap size : ℕ) (row : Row) (own : List Arrival) → 1 ≤ gap → length (left_at t row.plan) ≡ 0 → HasSource t row own → HasSource t (plan_row t count gap size row) own
source-planned t count gap size row own some none source = record {
  eligible = source.eligible;
  levels = source.levels;
  rises = rises-submitted t gap size count row.plan some none source.rises;
  served = served-same t t row (plan_row t count gap size row) own refl refl refl refl (ap (map tick_of) (made-submitted t gap size count row.plan)) source.served;
}

-- a release
source-closed : (t count : ℕ) (row : Row) (own : List Arrival) → HasSource t row own → HasSource t (close_row t count row) own
source-closed t count row own source = record {
  eligible = source.eligible;
  levels = source.levels;
  rises = rises-filter (is_before t) row.plan source.rises;
  served = served-same t t row (close_row t count row) own refl refl refl refl (ap (map tick_of) (made-closed t row.plan)) source.served;
}

-- a packet from the link before, which is none of a source
source-arrived : (t place : ℕ) (packet : Packet) (row : Row) (own : List Arrival) → row.terms.first ≡ false → HasSource t row own → HasSource t (arrived_row t place packet row) (own ++ arrived_packet t place packet row ∷ [])
source-arrived t place packet row own later source = record {
  eligible = ticks-more row own (arrived_packet t place packet row) source.eligible;
  levels = Each-append _ own _ source.levels (refl, tt);
  rises = source.rises;
  served = λ kept. absurd (let h : false ≡ true = sym later ∙ kept.first in cc);
}

-- a changed row
source-changed : (shape : LinkShape) (t : ℕ) (change : Change) (row : Row) (own : List Arrival) → ChangeFits shape t change row → IsInOrder shape t row → HasSource t row own → HasSource t (changed_row t change row) own
source-changed shape t (Commits level up_bound) row own fits order source = source-relaxed t up_bound level row own (order.fresh fits.offer.phase).0 source
source-changed shape t (Plans count gap size) row own fits order source = source-planned t count gap size row own fits.asked.gap_least fits.none_left source
source-changed shape t (Closes first count) row own fits order source = source-closed t count row own source

sources-stay : (shape : LinkShape) (t : ℕ) (scan : Scan) → ScanInOrder shape t scan → StaysWithEffects (HasSource t) shape t scan
sources-stay shape t scan order = record {
  added = λ terms fits. source-new t terms;
  changed = λ test change row found fits. source-changed shape t change row (own_packets row scan.packets) fits (Each-find (IsInOrder shape t) test scan.rows row order.held found);
  taken = λ packet row fits. source-arrived t (suc (length scan.packets)) packet row (own_packets row scan.packets) fits.takes.later;
}

served-effect : (shape : LinkShape) (t : ℕ) (scan : Scan) (effect : Effect) → EffectFits shape t scan effect → ScanInOrder shape t scan → Each (HasLeftInTime shape t (starts_below shape.rate scan.packets t)) scan.packets → ScanServed t scan → ScanServed (clock_by effect t) (with_effect shape t scan effect)
unfolding with_effect with_arrival
served-effect shape t scan Ticks fits order left served = served-tick shape t scan order left served
served-effect shape t scan effect fits order left served = record {
  stand = stand-effect HasSource shape t scan effect (sources-stay shape t scan order) (served-tick shape t scan order left served).stand fits served.stand;
  made = served.made;
}

-- after an admissible history
pub legal-served : (shape : LinkShape) (h : List Entry) → IsAdmissible shape h → ScanServed (clock_of h) (scan_of shape h)
legal-served shape h legal =
    each-admissible ScanServed shape (record { stand = record { leads = tt; beside = tt; held = tt; apart = tt }; made = tt })
    (λ past effect may fits. served-effect shape (clock_of past) (scan_of shape past) effect fits (legal-order shape past may) (guaranteed shape past may).in_time) h legal

-- ---- the guarantee

-- a packet of the row is of one of the levels
record IsOfLevels (shape : LinkShape) (row : Row) (p : Arrival) : Type 0 where
  upto : p.lead ≡ row.lead → p.level ≤ length shape.bounds

-- a row whose source keeps the contract is served promptly
row-served : (shape : LinkShape) (h : List Entry) → IsAdmissible shape h → (row : Row) → IsInOrder shape (clock_of h) row → HasSource (clock_of h) row (own_packets row (scan_of shape h).packets) → KeepingIsServed shape h row
row-served shape h legal row order source kept =
    let prompt = source.served kept in
    let hop = guaranteed shape h legal in
    let level : Each (IsOfLevels shape row) (scan_of shape h).packets =
    Each-if (λ p. has_lead row.lead p ≡ true → p.level ≡ level_number row.terms.level) (IsOfLevels shape row) (scan_of shape h).packets (λ p same. record { upto = λ led. (let e = same (eq-eqb p.lead row.lead led) in let most = order.level_most in omega (arith, e, most)) })
    (Each-if_passes (λ p. p.level ≡ level_number row.terms.level) (has_lead row.lead) (scan_of shape h).packets source.levels) in
    let at_once : Each (IsEligibleAtOnce row) (scan_of shape h).packets =
    Each-if (λ p. has_lead row.lead p ≡ true → p.eligible ≡ p.at) (IsEligibleAtOnce row) (scan_of shape h).packets (λ p same. record { at_once = λ led. same (eq-eqb p.lead row.lead led) })
    (Each-if_passes (λ p. p.eligible ≡ p.at) (has_lead row.lead) (scan_of shape h).packets prompt.at_once) in
    record {
      none_dropped = prompt.none_dropped;
      taken = sym (map-same eligible_of arrival_of (own_packets row (scan_of shape h).packets) prompt.at_once) ∙ sym source.eligible ∙ prompt.as_offered;
      as_offered = prompt.as_offered;
      at_once = at_once;
      departed = Each-if (λ start. (IsOfLevels shape row start.packet × IsEligibleAtOnce row start.packet) × LeavesInTime shape (clock_of h) start) (LeavesPromptly shape (clock_of h) row) (starts_of shape h)
          (λ start both. record { within = λ led by. (let same = both.0.1.at_once led in let leaves = both.1.within (both.0.0.upto led) by in omega (arith, same, leaves)) })
          (Each-both (λ start. IsOfLevels shape row start.packet × IsEligibleAtOnce row start.packet) (LeavesInTime shape (clock_of h)) (starts_of shape h) (starts-fact (λ p. IsOfLevels shape row p × IsEligibleAtOnce row p) shape.rate (scan_of shape h).packets (clock_of h) (Each-both (IsOfLevels shape row) (IsEligibleAtOnce row) (scan_of shape h).packets level at_once)) hop.departed);
      in_time = Each-if (λ p. (IsOfLevels shape row p × IsEligibleAtOnce row p) × HasLeftInTime shape (clock_of h) (starts_of shape h) p) (HasLeftPromptly shape (clock_of h) (starts_of shape h) row) (scan_of shape h).packets
          (λ p both. record { gone = λ led by. both.1.gone (both.0.0.upto led) (let same = both.0.1.at_once led in omega (arith, same, by)) })
          (Each-both (λ p. IsOfLevels shape row p × IsEligibleAtOnce row p) (HasLeftInTime shape (clock_of h) (starts_of shape h)) (scan_of shape h).packets (Each-both (IsOfLevels shape row) (IsEligibleAtOnce row) (scan_of shape h).packets level at_once) hop.in_time);
    }

-- each row of an admissible history, held or gone
pub source-guarantee : (shape : LinkShape) (h : List Entry) → IsAdmissible shape h → SourceGuarantee shape h
source-guarantee shape h legal =
    let stand = (legal-served shape h legal).stand in
    let order = legal-order shape h legal in
    record {
      held = Each-if (λ row. IsInOrder shape (clock_of h) row × IsHeld (HasSource (clock_of h)) (scan_of shape h).packets row) (KeepingIsServed shape h) (scan_of shape h).rows (λ row both. row-served shape h legal row both.0 both.1.fact)
          (Each-both (IsInOrder shape (clock_of h)) (IsHeld (HasSource (clock_of h)) (scan_of shape h).packets) (scan_of shape h).rows order.held stand.held);
      gone = Each-if (λ row. IsInOrder shape (clock_of h) row × IsBeside (HasSource (clock_of h)) (scan_of shape h).packets (scan_of shape h).rows row) (KeepingIsServed shape h) (scan_of shape h).gone (λ row both. row-served shape h legal row both.0 both.1.fact)
          (Each-both (IsInOrder shape (clock_of h)) (IsBeside (HasSource (clock_of h)) (scan_of shape h).packets (scan_of shape h).rows) (scan_of shape h).gone order.gone stand.beside);
    }
