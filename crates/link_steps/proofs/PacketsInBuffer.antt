-- The buffer of a link holds the packets of its channels that are here. Each is of a held row, since those of the rows that are
-- gone have left; of each row there are no more here than slots; and none is larger than its row's contract allows.
use Rattle.std.proofs.Common.{◌≡◌, ℕ, suc, ◌+◌, ◌*◌, ◌<◌, ◌≤◌, Bool, true, false, cond, List, [], ◌∷◌, ◌++◌, length, Option, Some, None, inl, inr, ⊎_elim, refl, sym, ◌∙◌, subst, arith, append-nil}
use Rattle.std.proofs.Math.Nat.{mul-le-mul_right}
use Rattle.std.proofs.lemmas.Bool.{cases_Bool, eq-eqb, ltb-false, not-true}
use Rattle.std.specs.Prelude.{filter, find, reverse}
use Rattle.net_units.specs.LevelBounds.{last_bound}
use Rattle.net_units.proofs.BoundsInOrder.{bound_at-rising}
use Rattle.traffic_contract.specs.Admission.{total}
use Rattle.traffic_contract.proofs.AdmissionTest.{total-map}
use Rattle.link_steps.specs.declared.replies.Entry.{Entry}
use Rattle.link_steps.specs.declared.shape.LinkShape.{LinkShape}
use Rattle.link_steps.specs.Admissible.{IsAdmissible}
use Rattle.link_steps.specs.Belonging.{own_packets, eligible_of, IsRowOf, TellsPackets, HasRow}
use Rattle.link_steps.specs.BestEffort.{is_best}
use Rattle.link_steps.specs.Buffer.{slots_of, held_units, has_lead, has_slot, held_packets}
use Rattle.link_steps.specs.BufferHolds.{units_of, here_after, FitsItsShare, BufferHolds, BufferAlwaysHolds}
use Rattle.link_steps.specs.Hold.{expires, stays}
use Rattle.link_steps.specs.HopGuarantee.{HasLeftInTime}
use Rattle.link_steps.specs.Lists.{Each, Any, Among}
use Rattle.link_steps.specs.Rows.{Row, SourcePacket, row_terms, is_for}
use Rattle.link_steps.specs.Scan.{Scan, clock_of, without_expired, with_sources, with_best, best_step_at, after_tick, scan_of, starts_of}
use Rattle.link_steps.specs.Service.{Arrival, is_here, here_at, has_departed, starts_below}
use Rattle.link_steps.specs.Slots.{HasSlots}
use Rattle.link_steps.specs.Sources.{source_step, step_of, packet_of, row_after}
use Rattle.link_steps.proofs.EntryEffects.{each-admissible}
use Rattle.link_steps.proofs.FoundElements.{Each-from_among, Each-passes, Each-if_passes}
use Rattle.link_steps.proofs.HopHolds.{guaranteed}
use Rattle.link_steps.proofs.LegalOrder.{ScanInOrder, HasExpired, IsCarried, legal-order}
use Rattle.link_steps.proofs.RowsInOrder.{SizeFits, IsInOrder}
use Rattle.link_steps.proofs.SearchAndFilter.{Each-append, Each-both, Each-mapped, Each-filter, Each-find, Each-if, Each-among, Among-filter}
use Rattle.link_steps.proofs.PacketRows.{Among-passes, packets-have_rows}
use Rattle.link_steps.proofs.RowPackets.{IsHeld, RowsStand, stand-sources}
use Rattle.link_steps.proofs.RowsStanding.{stand-if, stand-effect, stand-expired}
use Rattle.link_steps.proofs.SlotsHeld.{slots-held}
use Rattle.link_steps.proofs.SourceHistory.{stand-best}
use Rattle.link_steps.proofs.ListParts.{Among-reverse}
use Rattle.link_steps.proofs.UnitsHeld.{units-held}

-- ---- no packet is larger than its row's contract allows

abbrev AreNarrow : Row → List Arrival → Type 0
AreNarrow row own = Each (λ p. p.size ≤ row.terms.contract.smax) own

-- the same of a row in order
record IsReadyRow (row : Row) (own : List Arrival) : Type 0 where
  narrow : AreNarrow row own
  planned : Each (SizeFits row.terms.contract.smax) row.plan

abbrev ScanIsNarrow : Scan → Type 0
ScanIsNarrow scan = RowsStand AreNarrow AreNarrow scan.packets scan.gone scan.rows

narrow-step : (t place : ℕ) (row : Row) (own : List Arrival) (slot : Bool) (found : Option SourcePacket) → find (is_for t) row.plan ≡ found → IsReadyRow row own → AreNarrow (row_after (source_step slot found) t place row) (own ++ packet_of (source_step slot found) t place row)
narrow-step t place row own slot None is ready = rw (append-nil own) ready.narrow
narrow-step t place row own false (Some p) is ready = rw (append-nil own) ready.narrow
narrow-step t place row own true (Some p) is ready =
    let fits = Each-find (SizeFits row.terms.contract.smax) (is_for t) row.plan p ready.planned is in
    Each-append (λ q. q.size ≤ row.terms.contract.smax) own _ ready.narrow (fits.size_most, tt)

narrow-source : (bounds : List ℕ) (here : List Arrival) (t : ℕ) (row : Row) (own : List Arrival) (place : ℕ) → IsReadyRow row own → AreNarrow (row_after (step_of bounds here t row) t place row) (own ++ packet_of (step_of bounds here t row) t place row)
unfolding step_of
narrow-source bounds here t row own place ready = narrow-step t place row own (has_slot bounds row.terms row.lead here) (find (is_for t) row.plan) refl ready

narrow-tick : (shape : LinkShape) (t : ℕ) (scan : Scan) → ScanInOrder shape t scan → ScanIsNarrow scan → ScanIsNarrow (after_tick shape t scan)
unfolding after_tick with_best with_sources without_expired
narrow-tick shape t scan order narrow =
    let ready = stand-if AreNarrow AreNarrow AreNarrow IsReadyRow (λ row. Unit {0}) (IsInOrder shape t) scan.packets (scan.gone ++ filter (expires shape.bounds t) scan.rows) (filter (stays shape.bounds t) scan.rows)
    (λ row none fact. fact) (λ row own fact. record { narrow = fact; planned = own.planned })
    (Each-from_among (λ row. Unit {0}) (scan.gone ++ filter (expires shape.bounds t) scan.rows) (λ row among. tt)) (Each-filter (IsInOrder shape t) (stays shape.bounds t) scan.rows order.held)
    (stand-expired AreNarrow (expires shape.bounds t) scan.packets scan.gone scan.rows narrow) in
    let stand = stand-sources AreNarrow IsReadyRow shape.bounds (here_at shape.rate scan.packets t) t
    (λ row own place is. narrow-source shape.bounds (here_at shape.rate scan.packets t) t row own place is)
    (filter (stays shape.bounds t) scan.rows) (scan.gone ++ filter (expires shape.bounds t) scan.rows) scan.packets (length scan.packets) refl ready in
    stand-best AreNarrow shape.bounds t (best_step_at shape t scan) _ _ _ stand

legal-narrow : (shape : LinkShape) (h : List Entry) → IsAdmissible shape h → ScanIsNarrow (scan_of shape h)
legal-narrow shape h legal =
    each-admissible (λ t scan. ScanIsNarrow scan) shape (record { leads = tt; beside = tt; held = tt; apart = tt })
    (λ past effect may fits narrow. stand-effect (λ t. AreNarrow) shape (clock_of past) (scan_of shape past) effect
    (record {
      added = λ terms fits. tt;
      changed = λ test change row found fits narrow. narrow;
      taken = λ packet row fits narrow. Each-append (λ q. q.size ≤ row.terms.contract.smax) (own_packets row (scan_of shape past).packets) _ narrow (fits.takes.fits, tt);
    })
    (narrow-tick shape (clock_of past) (scan_of shape past) (legal-order shape past may) narrow) fits narrow) h legal

-- ---- the share of a row

-- so many packets, each of at most this size, are no larger together
total-narrow : (bounds : List ℕ) (most : ℕ) (ps : List Arrival) → Each (λ p. p.size ≤ most) ps → total (units_of bounds) ps ≤ length ps * most
total-narrow bounds most [] each = omega arith
total-narrow bounds most (p ∷ ps) each =
    let rest = total-narrow bounds most ps each.1 in
    let more : suc (length ps) * most ≡ length ps * most + most = omega arith in
    let own = at-most (is_best bounds p) in
    omega (arith, rest, more, own)
  where
    at-most : (b : Bool) → cond b 0 p.size ≤ p.size
    at-most true = omega arith
    at-most false = omega arith

row-share : (shape : LinkShape) (h : List Entry) (row : Row) → HasSlots shape h row → AreNarrow row (own_packets row (scan_of shape h).packets) → FitsItsShare shape h row
unfolding here_at held_packets slots_of held_units
row-share shape h row slots narrow =
    let here = here_after shape h in
    let all = Each-if_passes (λ p. p.size ≤ row.terms.contract.smax) (has_lead row.lead) (scan_of shape h).packets narrow in
    let some = Each-filter (λ p. has_lead row.lead p ≡ true → p.size ≤ row.terms.contract.smax) (is_here shape.rate (starts_below shape.rate (scan_of shape h).packets (clock_of h)) (clock_of h)) (scan_of shape h).packets all in
    let own = Each-if (λ p. (has_lead row.lead p ≡ true → p.size ≤ row.terms.contract.smax) × (has_lead row.lead p ≡ true)) (λ p. p.size ≤ row.terms.contract.smax) (filter (has_lead row.lead) here) (λ p both. both.0 both.1)
    (Each-both _ (λ p. has_lead row.lead p ≡ true) (filter (has_lead row.lead) here) (Each-filter _ (has_lead row.lead) here some) (Each-passes (has_lead row.lead) here)) in
    let sum = total-narrow shape.bounds row.terms.contract.smax (filter (has_lead row.lead) here) own in
    let few = mul-le-mul_right row.terms.contract.smax slots.few in
    record { units = omega (arith, sum, few) }

-- ---- all packets here

-- what the packets of a row take of these
abbrev units_in : List ℕ → List Arrival → Row → ℕ
units_in bounds ps row = total (units_of bounds) (filter (has_lead row.lead) ps)

-- a packet more takes no less, and its own units where the row is one of these
more-units : (bounds : List ℕ) (p : Arrival) (ps : List Arrival) (rows : List Row) → total (units_in bounds ps) rows ≤ total (units_in bounds (p ∷ ps)) rows
more-units bounds p ps [] = omega arith
more-units bounds p ps (row ∷ rows) =
    let rest = more-units bounds p ps rows in
    let own = either (has_lead row.lead p) in
    omega (arith, rest, own)
  where
    either : (b : Bool) → units_in bounds ps row ≤ total (units_of bounds) (cond b (p ∷ filter (has_lead row.lead) ps) (filter (has_lead row.lead) ps))
    either true = omega arith
    either false = omega arith

own-units : (bounds : List ℕ) (p : Arrival) (ps : List Arrival) (rows : List Row) → Any (IsRowOf p) rows → units_of bounds p + total (units_in bounds ps) rows ≤ total (units_in bounds (p ∷ ps)) rows
own-units bounds p ps [] any = absurd any
own-units bounds p ps (row ∷ rows) (inl is) =
    let rest = more-units bounds p ps rows in
    let led : has_lead row.lead p ≡ true = eq-eqb p.lead row.lead (sym is) in
    let own : units_in bounds (p ∷ ps) row ≡ units_of bounds p + units_in bounds ps row = rw led refl in
    omega (arith, rest, own)
own-units bounds p ps (row ∷ rows) (inr any) =
    let rest = own-units bounds p ps rows any in
    let own = more-units bounds p ps (row ∷ []) in
    omega (arith, rest, own)

-- packets that are each of one of these rows, or take nothing
covered : (bounds : List ℕ) (rows : List Row) (ps : List Arrival) → Each (λ p. is_best bounds p ≡ false → Any (IsRowOf p) rows) ps → total (units_of bounds) ps ≤ total (units_in bounds ps) rows
covered bounds rows [] each = omega arith
covered bounds rows (p ∷ ps) each =
    let rest = covered bounds rows ps each.1 in
    elim (cases_Bool (is_best bounds p)) [
      | inl best ↦ (let more = more-units bounds p ps rows in let none : units_of bounds p ≡ 0 = rw best refl in omega (arith, rest, more, none))
      | inr own ↦ (let more = own-units bounds p ps rows (each.0 own) in omega (arith, rest, more))
    ]

-- what each row takes is within its share
total-shares : (shape : LinkShape) (h : List Entry) (rows : List Row) → Each (FitsItsShare shape h) rows → total (units_in shape.bounds (here_after shape h)) rows ≤ total (λ row. held_units shape.bounds row.terms) rows
total-shares shape h [] each = omega arith
total-shares shape h (row ∷ rows) each =
    let rest = total-shares shape h rows each.1 in
    let own = each.0.units in
    omega (arith, rest, own)

-- ---- the rows that are gone

-- a packet of a row that is gone, of one of the levels, has departed
gone-departed : (shape : LinkShape) (h : List Entry) (p : Arrival) (gone : List Row) → Each (λ row. TellsPackets (length shape.bounds) (scan_of shape h).packets row × HasExpired shape (clock_of h) row) gone → Among p (scan_of shape h).packets → 1 ≤ p.level → p.level ≤ length shape.bounds
    → HasLeftInTime shape (clock_of h) (starts_of shape h) p → Any (IsRowOf p) gone → has_departed shape.rate (starts_of shape h) (clock_of h) p ≡ true
gone-departed shape h p [] each among one upto left any = absurd any
gone-departed shape h p (row ∷ gone) each among one upto left (inr any) = gone-departed shape h p gone each.1 among one upto left any
gone-departed shape h p (row ∷ gone) each among one upto left (inl is) =
    let tells = each.0.0 in
    let own = Among-passes (has_lead row.lead) p (scan_of shape h).packets (eq-eqb p.lead row.lead (sym is)) among in
    let tick = Each-from_among (λ e. e + last_bound shape.bounds < clock_of h) (reverse row.ticks) (λ e among. Each-among (λ e. e + last_bound shape.bounds < clock_of h) e row.ticks each.0.1 (Among-reverse e row.ticks among)) in
    let ticks = subst (Each (λ e. e + last_bound shape.bounds < clock_of h)) tells.ticks tick in
    let past = Each-among (λ q. q.eligible + last_bound shape.bounds < clock_of h) p (own_packets row (scan_of shape h).packets) (Each-mapped (λ e. e + last_bound shape.bounds < clock_of h) eligible_of (own_packets row (scan_of shape h).packets) ticks) own in
    let rising = bound_at-rising shape.bounds p.level (length shape.bounds) shape.bounds_rise one upto (omega arith) in
    left.gone upto (omega (arith, past, rising))

-- so each packet here, but for best-effort ones, is of a held row
held-here : (shape : LinkShape) (h : List Entry) → IsAdmissible shape h → Each (λ p. is_best shape.bounds p ≡ false → Any (IsRowOf p) (scan_of shape h).rows) (here_after shape h)
unfolding here_at
held-here shape h legal =
    Each-from_among (λ p. is_best shape.bounds p ≡ false → Any (IsRowOf p) (scan_of shape h).rows) (here_after shape h) (λ p among own.
    let order = legal-order shape h legal in
    let rows = packets-have_rows shape h legal in
    let inside = Among-filter (is_here shape.rate (starts_below shape.rate (scan_of shape h).packets (clock_of h)) (clock_of h)) p (scan_of shape h).packets among in
    let upto : p.level ≤ length shape.bounds = ltb-false (length shape.bounds) p.level own in
    let carried = Each-among (IsCarried shape) p (scan_of shape h).packets order.carried inside.0 in
    let left = Each-among (HasLeftInTime shape (clock_of h) (starts_of shape h)) p (scan_of shape h).packets (guaranteed shape h legal).in_time inside.0 in
    let gone = Each-both (TellsPackets (length shape.bounds) (scan_of shape h).packets) (HasExpired shape (clock_of h)) (scan_of shape h).gone rows.gone order.expired in
    ⊎_elim
    (λ (held : Any (IsRowOf p) (scan_of shape h).rows). held)
    (λ (out : Any (IsRowOf p) (scan_of shape h).gone).
    let departed = gone-departed shape h p (scan_of shape h).gone gone inside.0 carried.level_least upto left out in
    absurd (let clash : true ≡ false = sym departed ∙ not-true (has_departed shape.rate (starts_of shape h) (clock_of h) p) inside.1 in cc))
    ((Each-among (HasRow (length shape.bounds) (scan_of shape h).rows (scan_of shape h).gone) p (scan_of shape h).packets rows.each inside.0).one upto))

-- ---- every entry

holds-now : (shape : LinkShape) (h : List Entry) → IsAdmissible shape h → BufferHolds shape h
holds-now shape h legal =
    let rows = (scan_of shape h).rows in
    let kept = units-held shape h legal in
    let narrow = Each-if (IsHeld AreNarrow (scan_of shape h).packets) (λ row. AreNarrow row (own_packets row (scan_of shape h).packets)) rows (λ row held. held.fact) (legal-narrow shape h legal).held in
    let shares = Each-if (λ row. HasSlots shape h row × AreNarrow row (own_packets row (scan_of shape h).packets)) (FitsItsShare shape h) rows (λ row both. row-share shape h row both.0 both.1)
    (Each-both (HasSlots shape h) (λ row. AreNarrow row (own_packets row (scan_of shape h).packets)) rows (slots-held shape h legal) narrow) in
    let here = covered shape.bounds rows (here_after shape h) (held-here shape h legal) in
    let sum = total-shares shape h rows shares in
    let same = total-map (held_units shape.bounds) row_terms rows in
    record { kept = kept; shares = shares; here = omega (arith, here, sum, same, kept) }

pub buffer-holds : BufferAlwaysHolds
unfolding IsAdmissible
buffer-holds shape [] legal = holds-now shape [] legal
buffer-holds shape (e ∷ past) legal = (buffer-holds shape past legal.0, holds-now shape (e ∷ past) legal)
