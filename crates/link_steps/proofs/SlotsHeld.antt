-- In an admissible history no row has more packets here than slots.
use Rattle.std.proofs.Common.{◌≡◌, ℕ, suc, ◌<◌, ◌≤◌, Bool, true, false, not, cond, List, [], ◌∷◌, ◌++◌, length, Option, Some, None, inl, inr, refl, sym, ap, ◌∙◌, subst, arith, append-nil, length-append}
use Rattle.std.proofs.lemmas.Bool.{cases_Bool, ltb-true}
use Rattle.std.proofs.lemmas.List.Elements.{filter-append}
use Rattle.std.specs.Prelude.{filter, find, reverse}
use Rattle.net_units.specs.declared.numbers.Level.{Level}
use Rattle.link_steps.specs.declared.asks.Packet.{Packet}
use Rattle.link_steps.specs.declared.replies.Entry.{Entry}
use Rattle.link_steps.specs.declared.replies.Phase.TheVariants.{Committed}
use Rattle.link_steps.specs.declared.shape.LinkShape.{LinkShape}
use Rattle.link_steps.specs.Admissible.{IsAdmissible}
use Rattle.link_steps.specs.Belonging.{own_packets}
use Rattle.link_steps.specs.Buffer.{has_slot, held_packets, slots_of}
use Rattle.link_steps.specs.Hold.{expires, stays}
use Rattle.link_steps.specs.Lists.{change_first, Each}
use Rattle.link_steps.specs.Reservation.{Reservation, closing}
use Rattle.link_steps.specs.Rows.{Row, SourcePacket, new_row, is_for}
use Rattle.link_steps.specs.Scan.{Scan, clock_of, is_row_of, relax_row, close_row, arrived_packet, arrived_row, with_arrival, without_expired, with_sources, with_best, best_step_at, after_tick, scan_of}
use Rattle.link_steps.specs.Service.{Arrival, Start, starts_below, here_at, is_here, has_departed}
use Rattle.link_steps.specs.Slots.{HasSlots}
use Rattle.link_steps.specs.Sources.{arrival_at, source_tick, source_step, step_of, packet_of, row_after}
use Rattle.link_steps.specs.Effects.{Change, Commits, Plans, Closes, Effect, Adds, Changes, Removes, Takes, Ticks, changed_row, is_changed, with_effect, clock_by}
use Rattle.link_steps.proofs.EntryEffects.{ChangeFits, TakeFits, EffectFits, each-admissible}
use Rattle.link_steps.proofs.AccountOfRows.{eligible-from}
use Rattle.link_steps.proofs.Departures.{departed-at}
use Rattle.link_steps.proofs.LegalOrder.{ScanInOrder, legal-order}
use Rattle.link_steps.proofs.RowsInOrder.{IsInOrder}
use Rattle.link_steps.proofs.SearchAndFilter.{Each-find, Each-from, Each-if}
use Rattle.link_steps.proofs.NewPackets.{adds-tick}
use Rattle.link_steps.proofs.RowPackets.{IsHeld, RowsStand, stand-sources}
use Rattle.link_steps.proofs.RowsStanding.{stand-if, stand-expired, stand-reserved, stand-denied, stand-changed, stand-arrives}
use Rattle.link_steps.proofs.ServiceStarts.{starts_below-append}
use Rattle.link_steps.proofs.SourceHistory.{no-packets, held-here, stand-best, ScanServed, legal-served}
use Rattle.link_steps.proofs.SourcesServed.{HasSource}

-- of the row's packets no more than its slots haven't departed by t
pub record IsFew (shape : LinkShape) (starts : List Start) (t : ℕ) (row : Row) (own : List Arrival) : Type 0 where
  pub few : length (filter (is_here shape.rate starts t) own) ≤ slots_of shape.bounds row.terms

-- the same with a place among those here: as many as are held
record IsCounted (shape : LinkShape) (starts : List Start) (here : List Arrival) (t : ℕ) (row : Row) (own : List Arrival) : Type 0 where
  few : length (filter (is_here shape.rate starts t) own) ≤ slots_of shape.bounds row.terms
  held : held_packets row.lead here ≡ length (filter (is_here shape.rate starts t) own)

-- the rows of a scan, with the starts below t
abbrev pub ScanFits : LinkShape → ℕ → Scan → Type 0
ScanFits shape t scan = RowsStand (IsFew shape (starts_below shape.rate scan.packets t) t) (IsFew shape (starts_below shape.rate scan.packets t) t) scan.packets scan.gone scan.rows

-- a committed row has as many slots as a closing one
pub slots-closed : (bounds : List ℕ) (count : ℕ) (terms : Reservation) → terms.phase ≡ Committed
    → slots_of bounds (closing count terms) ≡ slots_of bounds terms
unfolding slots_of
slots-closed bounds count terms is = rw is refl

-- ---- one packet more

-- one more is at most one more here
one-more : (test : Arrival → Bool) (own : List Arrival) (p : Arrival)
    → length (filter test (own ++ p ∷ [])) ≤ suc (length (filter test own))
one-more test own p =
    let parts = filter-append test own (p ∷ []) in
    let lengths = ap length parts ∙ length-append (filter test own) (filter test (p ∷ [])) in
    let last = by-test (test p) in
    omega (arith, lengths, last) where
      by-test : (b : Bool) → length (cond b (p ∷ []) []) ≤ 1
      by-test true = omega arith
      by-test false = omega arith

-- ---- a tick

-- a row after the step of its source
few-step : (shape : LinkShape) (starts : List Start) (here : List Arrival) (t place : ℕ) (row : Row) (own : List Arrival) (slot : Bool) (found : Option SourcePacket)
    → has_slot shape.bounds row.terms row.lead here ≡ slot → IsCounted shape starts here t row own
    → IsFew shape starts t (row_after (source_step slot found) t place row) (own ++ packet_of (source_step slot found) t place row)
few-step shape starts here t place row own slot None free counted = rw (append-nil own) (record { few = counted.few })
few-step shape starts here t place row own true (Some p) free counted =
    let below : held_packets row.lead here < slots_of shape.bounds row.terms = ltb-true (held_packets row.lead here) (slots_of shape.bounds row.terms) free in
    let more = one-more (is_here shape.rate starts t) own (arrival_at row.terms row.lead place (suc (length row.ticks)) p.size t (source_tick row t)) in
    let held = counted.held in
    record { few = omega (arith, below, more, held) }
few-step shape starts here t place row own false (Some p) free counted = rw (append-nil own) (record { few = counted.few })

few-source : (shape : LinkShape) (starts : List Start) (here : List Arrival) (t : ℕ) (row : Row) (own : List Arrival) (place : ℕ)
    → IsCounted shape starts here t row own
    → IsFew shape starts t (row_after (step_of shape.bounds here t row) t place row) (own ++ packet_of (step_of shape.bounds here t row) t place row)
unfolding step_of
few-source shape starts here t row own place counted = few-step shape starts here t place row own (has_slot shape.bounds row.terms row.lead here) (find (is_for t) row.plan) refl counted

-- a test that passes less
pub filter-fewer : (test less : Arrival → Bool) (packets : List Arrival) → Each (λ p. less p ≡ true → test p ≡ true) packets
    → length (filter less packets) ≤ length (filter test packets)
filter-fewer test less [] passes = omega arith
filter-fewer test less (p ∷ packets) passes =
    let rest = filter-fewer test less packets passes.1 in
    elim (cases_Bool (less p)) [
      | inl passed ↦ rw (passed, passes.0 passed) (omega (arith, rest))
      | inr failed ↦ rw failed (by-test (test p) rest)
    ] where
      by-test : (b : Bool) → length (filter less packets) ≤ length (filter test packets) → length (filter less packets) ≤ length (cond b (p ∷ filter test packets) (filter test packets))
      by-test true rest = omega (arith, rest)
      by-test false rest = rest

-- what is here a tick later was here before
here-before : (rate : ℕ) (packets all : List Arrival) (t : ℕ) (p : Arrival) → starts_below rate all t ≡ starts_below rate packets t
    → is_here rate (starts_below rate all (suc t)) (suc t) p ≡ true → is_here rate (starts_below rate packets t) t p ≡ true
here-before rate packets all t p same here =
    elim (cases_Bool (has_departed rate (starts_below rate packets t) t p)) [
      | inl gone ↦ (let before : has_departed rate (starts_below rate all t) t p ≡ true = ap (λ starts. has_departed rate starts t p) same ∙ gone in
          let later = departed-at rate all t t (suc t) (suc t) p (omega arith) (omega arith) before in
          absurd (let h : false ≡ true = sym (ap not later) ∙ here in cc))
      | inr still ↦ rw still refl
    ]

few-later : (shape : LinkShape) (packets all : List Arrival) (t : ℕ) (row : Row) (own : List Arrival)
    → starts_below shape.rate all t ≡ starts_below shape.rate packets t → IsFew shape (starts_below shape.rate packets t) t row own
    → IsFew shape (starts_below shape.rate all (suc t)) (suc t) row own
few-later shape packets all t row own same is =
    let less = filter-fewer (is_here shape.rate (starts_below shape.rate packets t) t) (is_here shape.rate (starts_below shape.rate all (suc t)) (suc t)) own (Each-from _ own (λ p here. here-before shape.rate packets all t p same here)) in
    let few = is.few in
    record { few = omega (arith, less, few) }

-- all rows and packets, where nothing else is asked of the rows
stand-all : (P Q R S : Row → List Arrival → Type 0) (packets : List Arrival) (others rows : List Row)
    → ((row : Row) → P row (own_packets row packets) → R row (own_packets row packets))
    → ((row : Row) → Q row (own_packets row packets) → S row (own_packets row packets)) → RowsStand P Q packets others rows
    → RowsStand R S packets others rows
stand-all P Q R S packets others rows aside within stand =
    stand-if P Q R S (λ row. Unit {0}) (λ row. Unit {0}) packets others rows (λ row none fact. aside row fact) (λ row none fact. within row fact)
    (Each-from (λ row. Unit {0}) others (λ row. tt)) (Each-from (λ row. Unit {0}) rows (λ row. tt)) stand

-- the rows and packets of the tick, with the starts before it
stand-tick : (shape : LinkShape) (t : ℕ) (scan : Scan) → ScanFits shape t scan
    → RowsStand (IsFew shape (starts_below shape.rate scan.packets t) t) (IsFew shape (starts_below shape.rate scan.packets t) t) (after_tick shape t scan).packets (after_tick shape t scan).gone (after_tick shape t scan).rows
unfolding after_tick with_best with_sources without_expired
stand-tick shape t scan fits =
    let ready = stand-all (IsFew shape (starts_below shape.rate scan.packets t) t) (IsFew shape (starts_below shape.rate scan.packets t) t) (IsFew shape (starts_below shape.rate scan.packets t) t) (IsCounted shape (starts_below shape.rate scan.packets t) (here_at shape.rate scan.packets t) t) scan.packets
    (scan.gone ++ filter (expires shape.bounds t) scan.rows) (filter (stays shape.bounds t) scan.rows)
    (λ row fact. fact) (λ row fact. record { few = fact.few; held = held-here shape scan.packets t row.lead })
    (stand-expired (IsFew shape (starts_below shape.rate scan.packets t) t) (expires shape.bounds t) scan.packets scan.gone scan.rows fits) in
    let stand = stand-sources (IsFew shape (starts_below shape.rate scan.packets t) t) (IsCounted shape (starts_below shape.rate scan.packets t) (here_at shape.rate scan.packets t) t) shape.bounds (here_at shape.rate scan.packets t) t
    (λ row own place is. few-source shape (starts_below shape.rate scan.packets t) (here_at shape.rate scan.packets t) t row own place is)
    (filter (stays shape.bounds t) scan.rows) (scan.gone ++ filter (expires shape.bounds t) scan.rows) scan.packets (length scan.packets) refl ready in
    stand-best (IsFew shape (starts_below shape.rate scan.packets t) t) shape.bounds t (best_step_at shape t scan) _ _ _ stand

fits-tick : (shape : LinkShape) (t : ℕ) (scan : Scan) → ScanFits shape t scan → ScanFits shape (suc t) (after_tick shape t scan)
fits-tick shape t scan fits =
    let adds = adds-tick shape t scan in
    let same : starts_below shape.rate (after_tick shape t scan).packets t ≡ starts_below shape.rate scan.packets t = ap (λ all. starts_below shape.rate all t) adds.are ∙ starts_below-append shape.rate scan.packets adds.new t adds.from in
    stand-all (IsFew shape (starts_below shape.rate scan.packets t) t) (IsFew shape (starts_below shape.rate scan.packets t) t)
    (IsFew shape (starts_below shape.rate (after_tick shape t scan).packets (suc t)) (suc t)) (IsFew shape (starts_below shape.rate (after_tick shape t scan).packets (suc t)) (suc t))
    (after_tick shape t scan).packets (after_tick shape t scan).gone (after_tick shape t scan).rows
    (λ row fact. few-later shape scan.packets (after_tick shape t scan).packets t row (own_packets row (after_tick shape t scan).packets) same fact)
    (λ row fact. few-later shape scan.packets (after_tick shape t scan).packets t row (own_packets row (after_tick shape t scan).packets) same fact)
    (stand-tick shape t scan fits)

-- ---- the other entries

-- a tentative row has no packets, and so few at any level
few-relaxed : (shape : LinkShape) (starts : List Start) (t u up_bound : ℕ) (level : Level) (row : Row) (own : List Arrival) → row.ticks ≡ []
    → HasSource u row own → IsFew shape starts t (relax_row level up_bound row) own
few-relaxed shape starts t u up_bound level row own none source = record { few = subst (λ all. length (filter (is_here shape.rate starts t) all) ≤ slots_of shape.bounds (relax_row level up_bound row).terms) (sym (no-packets own (sym source.eligible ∙ ap reverse none))) (omega arith) }

-- a committed row keeps its slots when it closes
few-closed : (shape : LinkShape) (starts : List Start) (t u count : ℕ) (row : Row) (own : List Arrival) → row.terms.phase ≡ Committed
    → IsFew shape starts t row own → IsFew shape starts t (close_row u count row) own
few-closed shape starts t u count row own is few = record { few = subst (λ n. length (filter (is_here shape.rate starts t) own) ≤ n) (sym (slots-closed shape.bounds count row.terms is)) few.few }

few-changed : (shape : LinkShape) (starts : List Start) (t : ℕ) (change : Change) (row : Row) (own : List Arrival)
    → ChangeFits shape t change row → IsInOrder shape t row → HasSource t row own → IsFew shape starts t row own
    → IsFew shape starts t (changed_row t change row) own
few-changed shape starts t (Commits level up_bound) row own fits order source few = few-relaxed shape starts t t up_bound level row own (order.fresh fits.offer.phase).0 source
few-changed shape starts t (Plans count gap size) row own fits order source few = record { few = few.few }
few-changed shape starts t (Closes first count) row own fits order source few = few-closed shape starts t t count row own fits.phase few

fits-taken : (shape : LinkShape) (t : ℕ) (packet : Packet) (scan : Scan) (row : Row) → TakeFits shape t scan packet row
    → ScanFits shape t scan → ScanFits shape t (with_arrival t packet scan (Some row))
unfolding with_arrival
fits-taken shape t packet scan row own fits =
    let takes = own.takes in
    let below = takes.free in
    let held = held-here shape scan.packets t row.lead in
    let before : starts_below shape.rate (scan.packets ++ arrived_packet t (suc (length scan.packets)) packet row ∷ []) t ≡ starts_below shape.rate scan.packets t = starts_below-append shape.rate scan.packets (arrived_packet t (suc (length scan.packets)) packet row ∷ []) t (eligible-from row.terms row.ticks t packet.due, tt) in
    subst (λ starts. RowsStand (IsFew shape starts t) (IsFew shape starts t) (scan.packets ++ arrived_packet t (suc (length scan.packets)) packet row ∷ []) scan.gone (change_first (is_row_of packet.chan) (arrived_row t (suc (length scan.packets)) packet) scan.rows)) (sym before)
    (stand-arrives (IsFew shape (starts_below shape.rate scan.packets t) t) (is_row_of packet.chan) (arrived_row t (suc (length scan.packets)) packet) scan.packets (arrived_packet t (suc (length scan.packets)) packet row) row refl refl
    (λ fact. (let more = one-more (is_here shape.rate (starts_below shape.rate scan.packets t) t) (own_packets row scan.packets) (arrived_packet t (suc (length scan.packets)) packet row) in record { few = omega (arith, more, below, held) }))
    scan.rows scan.gone own.found fits)

fits-effect : (shape : LinkShape) (t : ℕ) (scan : Scan) (effect : Effect) → EffectFits shape t scan effect → ScanInOrder shape t scan
    → ScanServed t scan → ScanFits shape t scan → ScanFits shape (clock_by effect t) (with_effect shape t scan effect)
unfolding with_effect
fits-effect shape t scan (Adds terms) own order served fits =
    stand-reserved (IsFew shape (starts_below shape.rate scan.packets t) t) scan.packets scan.gone scan.rows (new_row terms) refl (record { few = omega arith }) fits
fits-effect shape t scan (Changes chan change) own order served fits =
    stand-changed (IsFew shape (starts_below shape.rate scan.packets t) t) (is_changed chan change) (changed_row t change) scan.packets (λ row. refl) scan.rows scan.gone (λ row found few.
    few-changed shape (starts_below shape.rate scan.packets t) t change row (own_packets row scan.packets) (own row found)
    (Each-find (IsInOrder shape t) (is_changed chan change) scan.rows row order.held found)
    (Each-find (IsHeld (HasSource t) scan.packets) (is_changed chan change) scan.rows row served.stand.held found).fact few) fits
fits-effect shape t scan (Removes chan) own order served fits =
    stand-denied (IsFew shape (starts_below shape.rate scan.packets t) t) (is_row_of chan) scan.packets scan.gone scan.rows fits
fits-effect shape t scan (Takes packet row) own order served fits = fits-taken shape t packet scan row own fits
fits-effect shape t scan Ticks own order served fits = fits-tick shape t scan fits
fits-effect shape t scan _ own order served fits = fits

-- ---- every entry

pub legal-fits : (shape : LinkShape) (h : List Entry) → IsAdmissible shape h → ScanFits shape (clock_of h) (scan_of shape h)
legal-fits shape h legal =
    each-admissible (ScanFits shape) shape (record { leads = tt; beside = tt; held = tt; apart = tt })
    (λ past effect may fits. fits-effect shape (clock_of past) (scan_of shape past) effect fits (legal-order shape past may) (legal-served shape past may)) h legal

pub slots-held : (shape : LinkShape) (h : List Entry) → IsAdmissible shape h → Each (HasSlots shape h) (scan_of shape h).rows
slots-held shape h legal =
    Each-if (IsHeld (IsFew shape (starts_below shape.rate (scan_of shape h).packets (clock_of h)) (clock_of h)) (scan_of shape h).packets) (HasSlots shape h) (scan_of shape h).rows
    (λ row held. (let few = held.fact.few in let same = held-here shape (scan_of shape h).packets (clock_of h) row.lead in record { few = omega (arith, few, same) }))
    (legal-fits shape h legal).held
