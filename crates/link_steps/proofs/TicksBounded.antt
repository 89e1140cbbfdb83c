-- No eligible tick of an admissible history reaches 2^63, while its clock is below 2^61. A row's newest eligible tick is past
-- 2^62 by at most an interval for each of its packets that are eligible later than that. None of these has departed, so
-- they are no more than the row's slots.
use Rattle.std.proofs.Common.{◌≡◌, ℕ, zero, suc, ◌+◌, ◌-◌, ◌*◌, ◌^◌, ◌<◌, ◌≤◌, Bool, true, false, List, [], ◌∷◌, ◌++◌, length, map, max, inl, inr, ⊎_elim, refl, ap, ◌∙◌, arith, append-nil, length-append}
use Rattle.std.proofs.Math.Nat.{mul-le-mul_left, mul-le-mul_right}
use Rattle.std.proofs.lemmas.Bool.{cases_Bool, cases_lt, cond_both, eqb-true, lt-ltb, ltb-true}
use Rattle.std.proofs.lemmas.List.Elements.{filter-append}
use Rattle.std.specs.List.{list_any}
use Rattle.std.specs.Prelude.{filter, nat_lt}
use Rattle.net_units.specs.LevelBounds.{last_bound}
use Rattle.net_units.specs.declared.Kind.{Kind}
use Rattle.net_units.specs.declared.Kind.TheVariants.{Rate, Jitter}
use Rattle.traffic_contract.specs.Admission.{total}
use Rattle.traffic_contract.specs.Contract.{most_in}
use Rattle.traffic_contract.specs.Eligible.{newest, first_from, eligible}
use Rattle.traffic_contract.specs.Keeping.{may_follow}
use Rattle.traffic_contract.proofs.LeastEligibleTick.{get_or-le-newest}
use Rattle.link_steps.specs.declared.replies.Entry.{Entry}
use Rattle.link_steps.specs.declared.shape.LinkShape.{LinkShape}
use Rattle.link_steps.specs.Admissible.{IsAdmissible}
use Rattle.link_steps.specs.Belonging.{own_packets}
use Rattle.link_steps.specs.Buffer.{stay_of, slots_of, held_units, has_lead, held_packets}
use Rattle.link_steps.specs.Hold.{expires, stays}
use Rattle.link_steps.specs.Lists.{Each, Among}
use Rattle.link_steps.specs.Regulator.{waits_until, eligible_next}
use Rattle.link_steps.specs.Reservation.{Reservation}
use Rattle.link_steps.specs.Rows.{Row, row_terms}
use Rattle.link_steps.specs.Scan.{Scan, clock_of, arrived_packet, without_expired, with_sources, with_best, best_step_at, after_tick, scan_of}
use Rattle.link_steps.specs.Service.{Arrival, starts_below, here_at, is_here, is_start_of, has_departed}
use Rattle.link_steps.specs.Slots.{HasSlots, IsSoon, HasSoonTicks, TicksAreSoon}
use Rattle.link_steps.specs.Sources.{SourceStep, Rests, Brings, Drops, step_of, packet_of, row_after}
use Rattle.link_steps.proofs.EntryEffects.{each-admissible, clock_by-later}
use Rattle.link_steps.proofs.BusyPeriods.{departed-has-started}
use Rattle.link_steps.proofs.FoundElements.{Each-from_among}
use Rattle.link_steps.proofs.Departures.{starts-eligible, IsEligibleStart}
use Rattle.link_steps.proofs.LegalOrder.{HasExpired, upto-newest, legal-order}
use Rattle.link_steps.proofs.RowsInOrder.{IsInOrder}
use Rattle.link_steps.proofs.SearchAndFilter.{Each-both, Each-filter, Each-if, Each-mapped}
use Rattle.link_steps.proofs.NewPackets.{packets-numbered, same-number}
use Rattle.link_steps.proofs.RowPackets.{IsHeld, RowsStand, stand-sources}
use Rattle.link_steps.proofs.RowsStanding.{Stands, stand-effect, stand-expired}
use Rattle.link_steps.proofs.ServiceStarts.{HasBegun, starts-begun, starts-fact}
use Rattle.link_steps.proofs.SlotsHeld.{filter-fewer, slots-held}
use Rattle.link_steps.proofs.SourceHistory.{held-here, stand-best}
use Rattle.link_steps.proofs.UnitsHeld.{units-held}

-- ---- one more eligible tick

-- a search over so many ticks ends after them at the latest
first_from-most : (test : ℕ → Bool) (low count : ℕ) → first_from test low count ≤ low + count
unfolding first_from
first_from-most test low zero = omega arith
first_from-most test low (suc count) =
    let later = first_from-most test (low + 1) count in
    cond_both (test low) low (first_from test (low + 1) count) (λ t. t ≤ low + suc count) (λ _. omega arith) (λ _. omega (arith, later))

waits-most : (kind : Kind) (first : Bool) (t due : ℕ) → waits_until kind first t due ≤ max t due
waits-most Jitter false t due = omega arith
waits-most Jitter true t due = omega arith
waits-most Rate true t due = omega arith
waits-most Rate false t due = omega arith

-- a packet is eligible at most an interval after the row's newest, or where it may go
pub eligible-most : (terms : Reservation) (recent : List ℕ) (t due : ℕ) → eligible_next terms recent t due ≤ max (max t due) (newest recent + terms.contract.interval)
unfolding eligible_next eligible
eligible-most terms recent t due =
    let low = waits-most terms.kind terms.first t due in
    let most = first_from-most (may_follow terms.contract recent) (waits_until terms.kind terms.first t due) (newest recent + terms.contract.interval - waits_until terms.kind terms.first t due) in
    omega (arith, low, most)

-- ---- the pace of a row

-- whether a packet is eligible later than tick 2^62
abbrev is_late : Arrival → Bool
is_late p = nat_lt (2 ^ 62) p.eligible

record IsPaced (row : Row) (own : List Arrival) : Type 0 where
  upto : newest row.ticks ≤ 2 ^ 62 + row.terms.contract.interval * length (filter is_late own)

-- with one packet more
paced-more : (terms : Reservation) (ticks : List ℕ) (t due : ℕ) (own : List Arrival) (p : Arrival) → t ≤ 2 ^ 62 → due ≤ 2 ^ 62 → p.eligible ≡ eligible_next terms ticks t due → newest ticks ≤ 2 ^ 62 + terms.contract.interval * length (filter is_late own) → eligible_next terms ticks t due ≤ 2 ^ 62 + terms.contract.interval * length (filter is_late (own ++ p ∷ []))
paced-more terms ticks t due own p soon due-soon is paced =
    let parts = filter-append is_late own (p ∷ []) in
    let most = eligible-most terms ticks t due in
    let both = ap length parts ∙ length-append (filter is_late own) (filter is_late (p ∷ [])) in
    ⊎_elim
    (λ (late : 2 ^ 62 < eligible_next terms ticks t due).
    let own-late : is_late p ≡ true = lt-ltb (2 ^ 62) p.eligible (omega (arith, late, is)) in
    let one : length (filter is_late (p ∷ [])) ≡ 1 = rw own-late refl in
    let all : length (filter is_late (own ++ p ∷ [])) ≡ suc (length (filter is_late own)) = omega (arith, both, one) in
    rw all (let times : terms.contract.interval * suc (length (filter is_late own)) ≡ terms.contract.interval * length (filter is_late own) + terms.contract.interval = omega arith in omega (arith, times, most, paced, soon, due-soon, late)))
    (λ (early : eligible_next terms ticks t due ≤ 2 ^ 62). omega (arith, early))
    (cases_lt (2 ^ 62) (eligible_next terms ticks t due))

-- ---- the sources of a tick

paced-step : (step : SourceStep) (t place : ℕ) (row : Row) (own : List Arrival) → t ≤ 2 ^ 62 → IsPaced row own → IsPaced (row_after step t place row) (own ++ packet_of step t place row)
paced-step Rests t place row own soon paced = rw (append-nil own) (record { upto = paced.upto })
paced-step Drops t place row own soon paced = rw (append-nil own) (record { upto = paced.upto })
paced-step (Brings size) t place row own soon paced = record { upto = paced-more row.terms row.ticks t 0 own _ soon (omega arith) refl paced.upto }

paced-tick : (shape : LinkShape) (t : ℕ) (scan : Scan) → t ≤ 2 ^ 62 → RowsStand IsPaced IsPaced scan.packets scan.gone scan.rows → RowsStand IsPaced IsPaced (after_tick shape t scan).packets (after_tick shape t scan).gone (after_tick shape t scan).rows
unfolding after_tick with_best with_sources without_expired
paced-tick shape t scan soon stand =
    stand-best IsPaced shape.bounds t (best_step_at shape t scan) _ _ _
    (stand-sources IsPaced IsPaced shape.bounds (here_at shape.rate scan.packets t) t (λ row own place paced. paced-step (step_of shape.bounds (here_at shape.rate scan.packets t) t row) t place row own soon paced)
    (filter (stays shape.bounds t) scan.rows) (scan.gone ++ filter (expires shape.bounds t) scan.rows) scan.packets (length scan.packets) refl
    (stand-expired IsPaced (expires shape.bounds t) scan.packets scan.gone scan.rows stand))

-- ---- the other entries

rows-paced : (shape : LinkShape) (h : List Entry) → clock_of h ≤ 2 ^ 62 → IsAdmissible shape h → RowsStand IsPaced IsPaced (scan_of shape h).packets (scan_of shape h).gone (scan_of shape h).rows
rows-paced shape h soon legal =
    each-admissible (λ t scan. t ≤ 2 ^ 62 → Stands IsPaced scan) shape (λ begins. record { leads = tt; beside = tt; held = tt; apart = tt })
    (λ past effect may fits paced after.
    let later = clock_by-later effect (clock_of past) in
    let before : clock_of past ≤ 2 ^ 62 = omega (arith, later, after) in
    stand-effect (λ t. IsPaced) shape (clock_of past) (scan_of shape past) effect
    (record {
      added = λ terms offer. record { upto = omega arith };
      changed = λ test change row found suits is. record { upto = is.upto };
      taken = λ packet row takes is. (let due = takes.asked.due_most in
          record { upto = paced-more row.terms row.ticks (clock_of past) packet.due (own_packets row (scan_of shape past).packets) (arrived_packet (clock_of past) (suc (length (scan_of shape past).packets)) packet row) before (omega (arith, due)) refl is.upto });
    })
    (paced-tick shape (clock_of past) (scan_of shape past) before (paced before)) fits (paced before)) h legal soon

-- ---- a late packet is here

-- a test that some element passes is passed by one with the facts of each
any-fact : {X : Type 0} (P : X → Type 0) (test : X → Bool) (xs : List X) → Each P xs → list_any test xs ≡ true → ((x : X) → P x → test x ≡ true → ⊥) → ⊥
any-fact P test [] each any out = (let h : false ≡ true = any in cc)
any-fact P test (x ∷ xs) each any out =
    elim (cases_Bool (test x)) [
      | inl passed ↦ out x each.0 passed
      | inr failed ↦ any-fact P test xs each.1 (rw failed at any) out
    ]

-- a packet of the history that is eligible at the clock or later hasn't departed
late-here : (shape : LinkShape) (h : List Entry) (p : Arrival) → Among p (scan_of shape h).packets → clock_of h ≤ p.eligible → is_here shape.rate (starts_below shape.rate (scan_of shape h).packets (clock_of h)) (clock_of h) p ≡ true
late-here shape h p among later =
    elim (cases_Bool (has_departed shape.rate (starts_below shape.rate (scan_of shape h).packets (clock_of h)) (clock_of h) p)) [
      | inl gone ↦ absurd (any-fact (λ start. Among start.packet (scan_of shape h).packets × (IsEligibleStart start × HasBegun (clock_of h) start)) (is_start_of p) (starts_below shape.rate (scan_of shape h).packets (clock_of h))
          (Each-both (λ start. Among start.packet (scan_of shape h).packets) (λ start. IsEligibleStart start × HasBegun (clock_of h) start) (starts_below shape.rate (scan_of shape h).packets (clock_of h))
          (starts-fact (λ q. Among q (scan_of shape h).packets) shape.rate (scan_of shape h).packets (clock_of h) (Each-from_among (λ q. Among q (scan_of shape h).packets) (scan_of shape h).packets (λ q own. own)))
          (Each-both IsEligibleStart (HasBegun (clock_of h)) (starts_below shape.rate (scan_of shape h).packets (clock_of h)) (starts-eligible shape.rate (scan_of shape h).packets (clock_of h)) (starts-begun shape.rate (scan_of shape h).packets (clock_of h))))
          (departed-has-started shape.rate (clock_of h) (starts_below shape.rate (scan_of shape h).packets (clock_of h)) p gone)
          (λ start facts same.
          let is = same-number 0 start.packet p (scan_of shape h).packets (packets-numbered shape h) facts.0 among (eqb-true start.packet.place p.place same) in
          let e : start.packet.eligible ≡ p.eligible = ap (λ q. q.eligible) is in
          let eligible = facts.1.0 in
          let begun = facts.1.1 in
          omega (arith, e, eligible, begun, later)))
      | inr still ↦ rw still refl
    ]

-- ---- the bound

-- the late packets of a row are no more than its packets here
late-few : (shape : LinkShape) (h : List Entry) (lead : ℕ) → clock_of h ≤ 2 ^ 62 → length (filter is_late (filter (has_lead lead) (scan_of shape h).packets)) ≤ held_packets lead (here_at shape.rate (scan_of shape h).packets (clock_of h))
late-few shape h lead soon =
    let here : Each (λ p. is_late p ≡ true → is_here shape.rate (starts_below shape.rate (scan_of shape h).packets (clock_of h)) (clock_of h) p ≡ true) (scan_of shape h).packets =
    Each-from_among _ (scan_of shape h).packets (λ p among late. late-here shape h p among (let past = ltb-true (2 ^ 62) p.eligible late in omega (arith, past, soon))) in
    let fewer = filter-fewer (is_here shape.rate (starts_below shape.rate (scan_of shape h).packets (clock_of h)) (clock_of h)) is_late (filter (has_lead lead) (scan_of shape h).packets) (Each-filter _ (has_lead lead) (scan_of shape h).packets here) in
    let held = held-here shape (scan_of shape h).packets (clock_of h) lead in
    omega (arith, fewer, held)

-- a part of a sum
each-part : {X : Type 0} (f : X → ℕ) (xs : List X) → Each (λ x. f x ≤ total f xs) xs
each-part f [] = tt
each-part f (x ∷ xs) = (omega arith, Each-if (λ y. f y ≤ total f xs) (λ y. f y ≤ f x + total f xs) xs (λ y part. omega (arith, part)) (each-part f xs))

-- a reservation has no more slots than it keeps units
slots-units : (bounds : List ℕ) (terms : Reservation) → 1 ≤ terms.contract.smax → slots_of bounds terms ≤ held_units bounds terms
unfolding slots_of held_units
slots-units bounds terms some =
    let more = mul-le-mul_left (most_in terms.contract (stay_of bounds terms)) some in
    omega (arith, more)

-- a row of the history that is held
record HeldRow (shape : LinkShape) (h : List Entry) (row : Row) : Type 0 where
  order : IsInOrder shape (clock_of h) row
  paced : IsPaced row (own_packets row (scan_of shape h).packets)
  slots : HasSlots shape h row
  units : held_units shape.bounds row.terms ≤ shape.buffer

held-soon : (shape : LinkShape) (h : List Entry) (row : Row) → clock_of h ≤ 2 ^ 62 → HeldRow shape h row → Each IsSoon row.ticks
held-soon shape h row soon held =
    let late = late-few shape h row.lead soon in
    let few = held.slots.few in
    let slots = slots-units shape.bounds row.terms held.order.contract.smax_least in
    let units = held.units in
    let buffer : shape.buffer ≤ 262144 = shape.buffer_most in
    let interval = held.order.contract.interval_most in
    let times = mul-le-mul_right (length (filter is_late (own_packets row (scan_of shape h).packets))) interval in
    let newest-most = held.paced.upto in
    Each-if (λ e. e ≤ newest row.ticks) IsSoon row.ticks (λ e upto. omega (arith, upto, late, few, slots, units, buffer, times, newest-most))
    (upto-newest (newest row.ticks) row.ticks (λ k. get_or-le-newest row.terms.contract row.ticks k held.order.keeps))

pub ticks-soon : (shape : LinkShape) (h : List Entry) → clock_of h ≤ 2 ^ 61 → IsAdmissible shape h → TicksAreSoon shape h
ticks-soon shape h early legal =
    let soon : clock_of h ≤ 2 ^ 62 = omega (arith, early) in
    let order = legal-order shape h legal in
    let all = units-held shape h legal in
    let stand = rows-paced shape h soon legal in
    record {
      held = Each-if (λ row. IsInOrder shape (clock_of h) row × (IsHeld IsPaced (scan_of shape h).packets row × (HasSlots shape h row × (held_units shape.bounds row.terms ≤ total (held_units shape.bounds) (map row_terms (scan_of shape h).rows))))) HasSoonTicks (scan_of shape h).rows
          (λ row facts. (let part = facts.1.1.1 in held-soon shape h row soon (record { order = facts.0; paced = facts.1.0.fact; slots = facts.1.1.0; units = omega (arith, all, part) })))
          (Each-both _ _ (scan_of shape h).rows order.held (Each-both _ _ (scan_of shape h).rows stand.held (Each-both _ _ (scan_of shape h).rows (slots-held shape h legal) (Each-mapped (λ terms. held_units shape.bounds terms ≤ total (held_units shape.bounds) (map row_terms (scan_of shape h).rows)) row_terms (scan_of shape h).rows (each-part (held_units shape.bounds) (map row_terms (scan_of shape h).rows))))));
      gone = Each-if (HasExpired shape (clock_of h)) HasSoonTicks (scan_of shape h).gone (λ row expired. Each-if (λ e. e + last_bound shape.bounds < clock_of h) IsSoon row.ticks (λ e before. omega (arith, before, early)) expired) order.expired;
    }
