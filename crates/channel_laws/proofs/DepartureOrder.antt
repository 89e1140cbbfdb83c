-- The packets of a channel leave a link in their order: where one has departed, each one before it has.
use Rattle.std.proofs.Common.{◌≡◌, ℕ, zero, suc, ◌<◌, ◌≤◌, true, List, [], ◌∷◌, Option, Some, None, refl, ap, ◌∙◌, subst, inl, inr, ⊎_elim, arith}
use Rattle.std.proofs.lemmas.Bool.{cases_lt, cond_both, eqb-true, leb-true, le-leb, and_parts, and_from, or_cases, or_left, or_right}
use Rattle.std.specs.Prelude.{filter, nat_le}
use Rattle.link_steps.specs.declared.replies.Entry.{Entry}
use Rattle.link_steps.specs.declared.shape.LinkShape.{LinkShape}
use Rattle.link_steps.specs.Lists.{Each, Among}
use Rattle.link_steps.specs.Scan.{scan_of}
use Rattle.link_steps.specs.Service.{Arrival, Start, leaves_at, goes_before, first_in_line, is_start_of, has_started, is_waiting, is_busy, add_start, serve_tick, starts_below, is_departure_by, has_departed}
use Rattle.link_steps.specs.Belonging.{AreNumberedFrom as ArePlaced}
use Rattle.link_steps.proofs.NewPackets.{packets-numbered, same-number}
use Rattle.link_steps.proofs.FoundElements.{Each-from_among}
use Rattle.link_steps.proofs.ServiceStarts.{HasLeft, FollowEachOther, starts-follow, starts-fact}
use Rattle.link_steps.proofs.Departures.{IsEligibleStart, starts-eligible}
use Rattle.channel_laws.proofs.ServiceOrder.{Tick as Sooner, Place, true-before, order-start}

-- ---- starts

-- a packet that goes before one that has started, and was eligible by then, started earlier
abbrev pub OrderedStarts : List Arrival → List Start → Type 0
OrderedStarts packets [] = Unit {0}
OrderedStarts packets (start ∷ earlier) = ((p : Arrival) → Among p packets → goes_before p start.packet ≡ true → p.eligible ≤ start.tick → has_started earlier p ≡ true) × OrderedStarts packets earlier

pub starts-ordered : (rate : ℕ) (packets : List Arrival) (t : ℕ) → OrderedStarts packets (starts_below rate packets t)
unfolding starts_below serve_tick
starts-ordered rate packets zero = tt
starts-ordered rate packets (suc t) =
    cond_both (is_busy rate (starts_below rate packets t) t) (starts_below rate packets t) (add_start (first_in_line (filter (is_waiting (starts_below rate packets t) t) packets)) t (starts_below rate packets t)) (OrderedStarts packets)
    (λ _. starts-ordered rate packets t) (λ _. added (first_in_line (filter (is_waiting (starts_below rate packets t) t) packets)) refl (starts-ordered rate packets t)) where
      added : (best : Option Arrival) → first_in_line (filter (is_waiting (starts_below rate packets t) t) packets) ≡ best → OrderedStarts packets (starts_below rate packets t) → OrderedStarts packets (add_start best t (starts_below rate packets t))
      added None none before = before
      added (Some q) first before = ((λ p among goes early. order-start packets (starts_below rate packets t) t q first p among goes early), before)

-- ---- departures

started-departed : (rate u t : ℕ) (starts : List Start) (p : Arrival) → u ≤ t → Each (HasLeft rate u) starts → has_started starts p ≡ true → has_departed rate starts t p ≡ true
started-departed rate u t [] p upto left started = started
started-departed rate u t (start ∷ earlier) p upto left started =
    ⊎_elim
    (λ (own : is_start_of p start ≡ true). or_left (is_departure_by rate t p start) (has_departed rate earlier t p) (and_from (is_start_of p start) (nat_le (leaves_at rate start) t) own (le-leb (leaves_at rate start) t (let l = left.0 in omega (arith, l, upto)))))
    (λ (before : has_started earlier p ≡ true). or_right (is_departure_by rate t p start) (has_departed rate earlier t p) (started-departed rate u t earlier p upto left.1 before))
    (or_cases (is_start_of p start) (has_started earlier p) started)

-- where a packet has departed, one that goes before it and was eligible no later has too
departs-first : (rate t : ℕ) (packets : List Arrival) (starts : List Start) (p q : Arrival) → ArePlaced 0 packets → Among p packets → Among q packets → Each (λ start. Among start.packet packets) starts → Each IsEligibleStart starts → OrderedStarts packets starts → FollowEachOther rate starts → goes_before p q ≡ true → p.eligible ≤ q.eligible → has_departed rate starts t q ≡ true → has_departed rate starts t p ≡ true
departs-first rate t packets [] p q placed pin qin from eligible ordered follow goes early departed = departed
departs-first rate t packets (start ∷ earlier) p q placed pin qin from eligible ordered follow goes early departed =
    ⊎_elim
    (λ (own : is_departure_by rate t q start ≡ true).
    let both = and_parts (is_start_of q start) (nat_le (leaves_at rate start) t) own in
    let same : start.packet ≡ q = same-number 0 start.packet q packets placed from.0 qin (eqb-true start.packet.place q.place both.0) in
    let left : leaves_at rate start ≤ t = leb-true (leaves_at rate start) t both.1 in
    let tick : q.eligible ≤ start.tick = subst (λ x. x.eligible ≤ start.tick) same eligible.0 in
    or_right (is_departure_by rate t p start) (has_departed rate earlier t p)
    (started-departed rate start.tick t earlier p (omega (arith, left)) follow.0 (ordered.0 p pin (ap (goes_before p) same ∙ goes) (omega (arith, early, tick)))))
    (λ (before : has_departed rate earlier t q ≡ true). or_right (is_departure_by rate t p start) (has_departed rate earlier t p) (departs-first rate t packets earlier p q placed pin qin from.1 eligible.1 ordered.1 follow.1 goes early before))
    (or_cases (is_departure_by rate t q start) (has_departed rate earlier t q) departed)

-- packets of one level, of which the first is eligible no later and has the smaller place
pub leaves-first : (shape : LinkShape) (h : List Entry) (t : ℕ) (p q : Arrival) → Among p (scan_of shape h).packets → Among q (scan_of shape h).packets → p.level ≡ q.level → p.eligible ≤ q.eligible → p.place < q.place → has_departed shape.rate (starts_below shape.rate (scan_of shape h).packets t) t q ≡ true → has_departed shape.rate (starts_below shape.rate (scan_of shape h).packets t) t p ≡ true
leaves-first shape h t p q pin qin level early place departed =
    departs-first shape.rate t (scan_of shape h).packets (starts_below shape.rate (scan_of shape h).packets t) p q (packets-numbered shape h) pin qin
    (starts-fact (λ x. Among x (scan_of shape h).packets) shape.rate (scan_of shape h).packets t (Each-from_among (λ x. Among x (scan_of shape h).packets) (scan_of shape h).packets (λ x among. among)))
    (starts-eligible shape.rate (scan_of shape h).packets t) (starts-ordered shape.rate (scan_of shape h).packets t) (starts-follow shape.rate (scan_of shape h).packets t)
    (elim (cases_lt p.eligible q.eligible) [
      | inl less ↦ true-before p q (Sooner level less)
      | inr same ↦ true-before p q (Place level (omega (arith, early, same)) place)
    ]) early departed
