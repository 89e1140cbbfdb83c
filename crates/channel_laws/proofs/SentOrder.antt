-- The packet of a channel that a tick sends is the next in its order: its number is one more than the count of those that
-- had departed.
use Rattle.std.proofs.Common.{◌≡◌, ℕ, zero, suc, ◌+◌, ◌-◌, ◌<◌, ◌≤◌, Bool, true, false, List, [], ◌∷◌, length, map, get_or, Option, Some, None, refl, sym, ap, ◌∙◌, subst, inl, inr, ⊎_elim, arith}
use Rattle.std.proofs.lemmas.Bool.{cases_Bool, cases_lt, cond_both, eqb-true, eq-eqb, leb-true, le-leb, and_parts, and_from, or_cases, or_left, or_right, false_from_ne_true}
use Rattle.std.proofs.lemmas.Option.{same_Some}
use Rattle.std.specs.List.{slice_get}
use Rattle.std.specs.Prelude.{filter, nat_le}
use Rattle.traffic_contract.specs.Keeping.{Spaced, Keeps}
use Rattle.net_units.specs.Numbers.{level_number}
use Rattle.link_steps.specs.declared.replies.Entry.{Entry}
use Rattle.link_steps.specs.declared.shape.LinkShape.{LinkShape}
use Rattle.link_steps.specs.Lists.{Each, Among}
use Rattle.link_steps.specs.Rows.{Row}
use Rattle.link_steps.specs.Scan.{scan_of}
use Rattle.link_steps.specs.Service.{Arrival, Start, leaves_at, work_of, first_in_line, is_start_of, is_waiting, is_busy, add_start, serve_tick, starts_below, is_departure_by, has_departed}
use Rattle.link_steps.proofs.Departures.{departed-at, starts-once, leaves-once}
use Rattle.link_steps.proofs.SearchAndFilter.{Each-among, Among-filter}
use Rattle.link_steps.proofs.ServiceStarts.{FollowEachOther, starts-follow, starts-begun, HasBegun, starts-fact}
use Rattle.channel_laws.specs.Channels.{HopTerms, is_of_channel, channel_packets, tick_of_packet, AreNumberedAfter, RowTells}
use Rattle.link_steps.proofs.ListParts.{Each-at, Among-at}
use Rattle.channel_laws.proofs.Places.{tick-at, place-of, row-keeps}
use Rattle.link_steps.proofs.PacketRows.{Among-passes}
use Rattle.link_steps.proofs.NewPackets.{packets-numbered}
use Rattle.link_steps.specs.Belonging.{AreNumberedFrom as ArePlaced}
use Rattle.channel_laws.proofs.DepartureOrder.{leaves-first}

-- ---- the start after a departure

pub record DepartedBy (rate c : ℕ) (starts : List Start) (p : Arrival) : Type 0 where
  pub start : Start
  pub among : Among start starts
  pub own : is_start_of p start ≡ true
  pub left : leaves_at rate start ≤ c

no-true : false ≡ true → ⊥
no-true same = cc

pub departed-start : (rate c : ℕ) (starts : List Start) (p : Arrival) → has_departed rate starts c p ≡ true → DepartedBy rate c starts p
departed-start rate c [] p departed = absurd (no-true departed)
departed-start rate c (start ∷ earlier) p departed =
    ⊎_elim
    (λ (here : is_departure_by rate c p start ≡ true). (let both = and_parts (is_start_of p start) (nat_le (leaves_at rate start) c) here in record { start = start; among = inl refl; own = both.0; left = leb-true (leaves_at rate start) c both.1 }))
    (λ (before : has_departed rate earlier c p ≡ true). (let rest = departed-start rate c earlier p before in record { start = rest.start; among = inr rest.among; own = rest.own; left = rest.left }))
    (or_cases (is_departure_by rate c p start) (has_departed rate earlier c p) departed)

pub start-departed : (rate c : ℕ) (starts : List Start) (p : Arrival) (start : Start) → Among start starts → is_start_of p start ≡ true
    → leaves_at rate start ≤ c → has_departed rate starts c p ≡ true
start-departed rate c [] p start among own left = absurd among
start-departed rate c (s ∷ earlier) p start (inl same) own left =
    or_left (is_departure_by rate c p s) (has_departed rate earlier c p) (and_from (is_start_of p s) (nat_le (leaves_at rate s) c) (subst (λ x. is_start_of p x ≡ true) same own) (subst (λ x. nat_le (leaves_at rate x) c ≡ true) same (le-leb (leaves_at rate start) c left)))
start-departed rate c (s ∷ earlier) p start (inr among) own left = or_right (is_departure_by rate c p s) (has_departed rate earlier c p) (start-departed rate c earlier p start among own left)

-- a start of an earlier tick
pub start-before : (rate t : ℕ) (packets : List Arrival) (start : Start) → Among start (starts_below rate packets (suc t)) → start.tick < t
    → Among start (starts_below rate packets t)
unfolding starts_below serve_tick
start-before rate t packets start among early =
    cond_both (is_busy rate (starts_below rate packets t) t) (starts_below rate packets t) (add_start (first_in_line (filter (is_waiting (starts_below rate packets t) t) packets)) t (starts_below rate packets t)) (λ starts. Among start starts → Among start (starts_below rate packets t))
    (λ _ there. there) (λ _. added (first_in_line (filter (is_waiting (starts_below rate packets t) t) packets)) (starts_below rate packets t)) among where
      added : (best : Option Arrival) (starts : List Start) → Among start (add_start best t starts) → Among start starts
      added None starts there = there
      added (Some q) starts (inl same) = absurd (let e : start.tick ≡ t = ap (λ s. s.tick) same in omega (arith, e, early))
      added (Some q) starts (inr there) = there

-- the head of the starts, where it leaves at the end of tick t
pub record SentHead (rate t : ℕ) (packets : List Arrival) : Type 0 where
  pub start : Start
  pub earlier : List Start
  pub is : starts_below rate packets (suc t) ≡ start ∷ earlier
  pub leaves : leaves_at rate start ≡ suc t

pub works-start : (rate : ℕ) (packets : List Arrival) (t : ℕ) → Each (λ p. 1 ≤ work_of rate p) packets
    → Each (λ s. 1 ≤ work_of rate s.packet) (starts_below rate packets t)
works-start rate packets t works = starts-fact (λ p. 1 ≤ work_of rate p) rate packets t works

-- a packet that has departed by the end of tick t, and not before, is the one that is sent
departs-now : (rate t : ℕ) (packets : List Arrival) (p : Arrival) (head : SentHead rate t packets) → Each (λ q. 1 ≤ work_of rate q) packets
    → has_departed rate (starts_below rate packets (suc t)) (suc t) p ≡ true
    → (has_departed rate (starts_below rate packets t) t p ≡ true → ⊥) → is_start_of p head.start ≡ true
departs-now rate t packets p head works departed fresh =
    let by = departed-start rate (suc t) (starts_below rate packets (suc t)) p departed in
    let work = Each-among (λ s. 1 ≤ work_of rate s.packet) by.start _ (works-start rate packets (suc t) works) by.among in
    elim (cases_lt (leaves_at rate by.start) (suc t)) [
      | inl early ↦ absurd (fresh (start-departed rate t (starts_below rate packets t) p by.start (start-before rate t packets by.start by.among (omega (arith, early, work))) by.own (omega (arith, early))))
      | inr last ↦ at-head (subst (Among by.start) head.is by.among) by.own (let l = by.left in omega (arith, l, last)) (subst (FollowEachOther rate) head.is (starts-follow rate packets (suc t))) (Each-among (HasBegun (suc t)) head.start _ (starts-begun rate packets (suc t)) (subst (Among head.start) (sym head.is) (inl refl)))
    ] where
      at-head : {x : Start} → Among x (head.start ∷ head.earlier) → is_start_of p x ≡ true → leaves_at rate x ≡ suc t → FollowEachOther rate (head.start ∷ head.earlier) → head.start.tick < suc t → is_start_of p head.start ≡ true
      at-head {x} (inl same) own leaves follow begun = subst (λ s. is_start_of p s ≡ true) same own
      at-head {x} (inr among) own leaves follow begun = absurd (let left = Each-among (λ s. leaves_at rate s ≤ head.start.tick) x head.earlier follow.0 among in omega (arith, left, leaves, begun))

-- and that one had not departed before
sent-fresh : (rate t : ℕ) (packets : List Arrival) (head : SentHead rate t packets)
    → has_departed rate (starts_below rate packets t) t head.start.packet ≡ true → ⊥
sent-fresh rate t packets head departed =
    let later = departed-at rate packets t t t (suc t) head.start.packet (omega arith) (omega arith) departed in
    let left = leaves-once rate t (starts_below rate packets (suc t)) head.start (starts-once rate packets (suc t)) (subst (Among head.start) (sym head.is) (inl refl)) later in
    let leaves = head.leaves in
    omega (arith, left, leaves)

-- ---- counting a prefix

count-front : (test : Arrival → Bool) (own : List Arrival) (index : ℕ) → index ≤ length own
    → ((k : ℕ) (p : Arrival) → slice_get own k ≡ Some p → k < index → test p ≡ true)
    → ((k : ℕ) (p : Arrival) → slice_get own k ≡ Some p → index ≤ k → test p ≡ false) → length (filter test own) ≡ index
count-front test [] zero upto yes' no' = refl
count-front test [] (suc index) upto yes' no' = absurd (omega arith)
count-front test (p ∷ own) zero upto yes' no' = rw (no' 0 p refl (omega arith)) (count-front test own zero (omega arith) (λ k q found less. absurd (omega (arith, less))) (λ k q found from. no' (suc k) q found (omega arith)))
count-front test (p ∷ own) (suc index) upto yes' no' = rw (yes' 0 p refl (omega arith)) (ap suc (count-front test own index (omega arith) (λ k q found less. yes' (suc k) q found (omega (arith, less))) (λ k q found from. no' (suc k) q found (omega (arith, from)))))

-- ---- the order of a channel's packets

spaced-rise : (least : ℕ) (ticks : List ℕ) (j d : ℕ) → Spaced 1 least ticks → j + d < length ticks
    → get_or ticks j 0 ≤ get_or ticks (j + d) 0
spaced-rise least ticks j zero spaced within = (let e : j + 0 ≡ j = omega arith in let f : get_or ticks (j + 0) 0 ≡ get_or ticks j 0 = ap (λ k. get_or ticks k 0) e in omega (arith, f))
spaced-rise least ticks j (suc d) spaced within =
    let before = spaced-rise least ticks j d spaced (omega arith) in
    let step = spaced.apart (j + d) (omega arith) in
    let e : j + d + 1 ≡ j + suc d = omega arith in
    let f : get_or ticks (j + d + 1) 0 ≡ get_or ticks (j + suc d) 0 = ap (λ k. get_or ticks k 0) e in
    omega (arith, before, step, f)

spaced-between : (least : ℕ) (ticks : List ℕ) (j k : ℕ) → Spaced 1 least ticks → j < k → k < length ticks
    → get_or ticks j 0 ≤ get_or ticks k 0
spaced-between least ticks j k spaced less within = at-sum (k - j) (omega arith) where
  at-sum : (d : ℕ) → j + d ≡ k → get_or ticks j 0 ≤ get_or ticks k 0
  at-sum d same = (let rise = spaced-rise least ticks j d spaced (omega (arith, same, within)) in let e : get_or ticks (j + d) 0 ≡ get_or ticks k 0 = ap (λ i. get_or ticks i 0) same in omega (arith, rise, e))

-- a numbered packet stands at the place of its number
number-above : (own : List Arrival) (p : Arrival) → Among p own → (n : ℕ) → AreNumberedAfter n own → n < p.number
number-above [] p among n are = absurd among
number-above (q ∷ own) p (inl same) n are = (let e : p.number ≡ q.number = ap (λ x. x.number) same in let f = are.0 in omega (arith, e, f))
number-above (q ∷ own) p (inr among) n are = (let rest = number-above own p among (suc n) are.1 in omega (arith, rest))

found-at : (own : List Arrival) (p : Arrival) → Among p own → (n : ℕ) → AreNumberedAfter n own → (index : ℕ) → p.number ≡ suc (n + index)
    → slice_get own index ≡ Some p
found-at [] p among n are index number = absurd among
found-at (q ∷ own) p (inl same) n are zero number = ap Some (sym same)
found-at (q ∷ own) p (inl same) n are (suc index) number = absurd (let e : p.number ≡ q.number = ap (λ x. x.number) same in let f = are.0 in omega (arith, e, f, number))
found-at (q ∷ own) p (inr among) n are zero number = absurd (let above = number-above own p among (suc n) are.1 in omega (arith, above, number))
found-at (q ∷ own) p (inr among) n are (suc index) number = found-at own p among (suc n) are.1 index (omega (arith, number))

place-above : (n : ℕ) (packets : List Arrival) (p : Arrival) → ArePlaced n packets → Among p packets → n < p.place
place-above n [] p placed among = absurd among
place-above n (q ∷ packets) p placed (inl same) = (let e : p.place ≡ q.place = ap (λ x. x.place) same in let f = placed.0 in omega (arith, e, f))
place-above n (q ∷ packets) p placed (inr among) = (let rest = place-above (suc n) packets p placed.1 among in omega (arith, rest))

filter-above : (test : Arrival → Bool) (n : ℕ) (packets : List Arrival) (k : ℕ) (p : Arrival) → ArePlaced n packets
    → slice_get (filter test packets) k ≡ Some p → n < p.place
filter-above test n packets k p placed found = place-above n packets p placed (Among-filter test p packets (Among-at (filter test packets) k p found)).0

filter-rises : (test : Arrival → Bool) (n : ℕ) (packets : List Arrival) (j k : ℕ) (p q : Arrival) → ArePlaced n packets
    → slice_get (filter test packets) j ≡ Some p → slice_get (filter test packets) k ≡ Some q → j < k → p.place < q.place
filter-rises test n [] j k p q placed fp fq less = absurd (let clash : None ≡ Some p = fp in cc)
filter-rises test n (x ∷ packets) j k p q placed fp fq less =
    elim (cases_Bool (test x)) [
      | inl passed ↦ kept j k (rw passed at fp) (rw passed at fq) less (λ a c fa fc below. filter-rises test (suc n) packets a c p q placed.1 fa fc below)
      | inr failed ↦ filter-rises test (suc n) packets j k p q placed.1 (rw failed at fp) (rw failed at fq) less
    ] where
      kept : (a c : ℕ) → slice_get (x ∷ filter test packets) a ≡ Some p → slice_get (x ∷ filter test packets) c ≡ Some q → a < c → ((d e : ℕ) → slice_get (filter test packets) d ≡ Some p → slice_get (filter test packets) e ≡ Some q → d < e → p.place < q.place) → p.place < q.place
      kept zero zero fa fc below rest = absurd (omega arith)
      kept (suc a) zero fa fc below rest = absurd (omega arith)
      kept zero (suc c) fa fc below rest =
          (let e : x.place ≡ p.place = ap (λ y. y.place) (same_Some x p fa) in let above = filter-above test (suc n) packets c q placed.1 fc in let f = placed.0 in omega (arith, e, above, f))
      kept (suc a) (suc c) fa fc below rest = rest a c fa fc (omega arith)

-- ---- the law

pub record SentCounts (shape : LinkShape) (c t : ℕ) (packets : List Arrival) (number : ℕ) : Type 0 where
  pub before : number ≡ suc (length (filter (has_departed shape.rate (starts_below shape.rate packets t) t) (channel_packets c packets)))
  pub after : number ≡ length (filter (has_departed shape.rate (starts_below shape.rate packets (suc t)) (suc t)) (channel_packets c packets))

pub sent-number : (shape : LinkShape) (terms : HopTerms) (c t : ℕ) (row : Row) (h : List Entry) (head : SentHead shape.rate t (scan_of shape h).packets)
    → RowTells terms c row (channel_packets c (scan_of shape h).packets) → Each (λ p. 1 ≤ work_of shape.rate p) (scan_of shape h).packets
    → Among head.start.packet (scan_of shape h).packets → is_of_channel c head.start.packet ≡ true
    → SentCounts shape c t (scan_of shape h).packets head.start.packet.number
sent-number shape terms c t row h head tells works among chan =
    let packets : List Arrival = (scan_of shape h).packets in
    let own : Among head.start.packet (channel_packets c (scan_of shape h).packets) = Among-passes (is_of_channel c) head.start.packet (scan_of shape h).packets chan among in
    let place = place-of 0 (channel_packets c (scan_of shape h).packets) head.start.packet tells.numbered own in
    let keeps = row-keeps terms c row (channel_packets c (scan_of shape h).packets) tells in
    let now : has_departed shape.rate (starts_below shape.rate (scan_of shape h).packets (suc t)) (suc t) head.start.packet ≡ true = start-departed shape.rate (suc t) (starts_below shape.rate (scan_of shape h).packets (suc t)) head.start.packet head.start (subst (Among head.start) (sym head.is) (inl refl)) (eq-eqb head.start.packet.place head.start.packet.place refl) (let l = head.leaves in omega (arith, l)) in
    let at-place = found-at (channel_packets c (scan_of shape h).packets) head.start.packet own 0 tells.numbered place.index place.number in
    let count = count-front (has_departed shape.rate (starts_below shape.rate (scan_of shape h).packets t) t) (channel_packets c (scan_of shape h).packets) place.index (let w = place.within in omega (arith, w))
    (λ k p found less.
    let before = earlier k place.index p head.start.packet keeps found at-place less in
    elim (cases_Bool (has_departed shape.rate (starts_below shape.rate (scan_of shape h).packets t) t p)) [
      | inl gone ↦ gone
      | inr fresh ↦ absurd (
          let later = leaves-first shape h (suc t) p head.start.packet (inside k p found) among before.0 before.1 before.2 now in
          let same = departs-now shape.rate t (scan_of shape h).packets p head works later (λ gone. not-both gone fresh) in
          let places : head.start.packet.place ≡ p.place = eqb-true head.start.packet.place p.place same in
          let less-place = before.2 in omega (arith, places, less-place))
    ])
    (λ k p found from. false_from_ne_true _ (λ gone. by-order k p found from gone at-place keeps)) in
    let later-count = count-front (has_departed shape.rate (starts_below shape.rate (scan_of shape h).packets (suc t)) (suc t)) (channel_packets c (scan_of shape h).packets) (suc place.index) (let w = place.within in omega (arith, w))
    (λ k p found less. elim (cases_lt k place.index) [
      | inl below ↦ (let before = earlier k place.index p head.start.packet keeps found at-place below in leaves-first shape h (suc t) p head.start.packet (inside k p found) among before.0 before.1 before.2 now)
      | inr same ↦ (let e : place.index ≡ k = omega (arith, same, less) in
          let own' : head.start.packet ≡ p = same_Some head.start.packet p (sym at-place ∙ ap (slice_get (channel_packets c (scan_of shape h).packets)) e ∙ found) in
          subst (λ x. has_departed shape.rate (starts_below shape.rate (scan_of shape h).packets (suc t)) (suc t) x ≡ true) own' now)
    ])
    (λ k p found from. false_from_ne_true _ (λ gone'. elim (cases_Bool (has_departed shape.rate (starts_below shape.rate (scan_of shape h).packets t) t p)) [
      | inl gone ↦ by-order k p found (omega (arith, from)) gone at-place keeps
      | inr fresh ↦ (let same = departs-now shape.rate t (scan_of shape h).packets p head works gone' (λ gone. not-both gone fresh) in
          let places : head.start.packet.place ≡ p.place = eqb-true head.start.packet.place p.place same in
          let before = earlier place.index k head.start.packet p keeps at-place found (omega (arith, from)) in
          let less-place = before.2 in omega (arith, places, less-place))
    ])) in
    record { before = (let e = place.number in omega (arith, e, count)); after = (let e = place.number in omega (arith, e, later-count)) } where
      not-both : {b : Bool} → b ≡ true → b ≡ false → ⊥
      not-both {b} one other = no-true (sym other ∙ one)

      inside : (k : ℕ) (p : Arrival) → slice_get (channel_packets c (scan_of shape h).packets) k ≡ Some p → Among p (scan_of shape h).packets
      inside k p found = (Among-filter (is_of_channel c) p (scan_of shape h).packets (Among-at (channel_packets c (scan_of shape h).packets) k p found)).0

      earlier : (j k : ℕ) (p q : Arrival) → Keeps terms.contract (map tick_of_packet (channel_packets c (scan_of shape h).packets)) → slice_get (channel_packets c (scan_of shape h).packets) j ≡ Some p → slice_get (channel_packets c (scan_of shape h).packets) k ≡ Some q → j < k → (p.level ≡ q.level) × (p.eligible ≤ q.eligible) × (p.place < q.place)
      earlier j k p q keeps fp fq less =
          let tp = tick-at (channel_packets c (scan_of shape h).packets) j p fp in
          let tq = tick-at (channel_packets c (scan_of shape h).packets) k q fq in
          let rise = spaced-between terms.contract.xmin (map tick_of_packet (channel_packets c (scan_of shape h).packets)) j k keeps.neighbours less tq.0 in
          let a = tp.1 in let b = tq.1 in (
            Each-at (λ x. x.level ≡ level_number row.terms.level) _ j p tells.levels fp ∙ sym (Each-at (λ x. x.level ≡ level_number row.terms.level) _ k q tells.levels fq),
            omega (arith, rise, a, b),
            filter-rises (is_of_channel c) 0 (scan_of shape h).packets j k p q (packets-numbered shape h) fp fq less,
          )

      by-order : (k : ℕ) (p : Arrival) → slice_get (channel_packets c (scan_of shape h).packets) k ≡ Some p → {index : ℕ} → index ≤ k → has_departed shape.rate (starts_below shape.rate (scan_of shape h).packets t) t p ≡ true → slice_get (channel_packets c (scan_of shape h).packets) index ≡ Some head.start.packet → Keeps terms.contract (map tick_of_packet (channel_packets c (scan_of shape h).packets)) → ⊥
      by-order k p found {index} from gone at-place keeps =
          elim (cases_lt index k) [
            | inl less ↦ (let before = earlier index k head.start.packet p keeps at-place found less in
                sent-fresh shape.rate t (scan_of shape h).packets head (leaves-first shape h t head.start.packet p among (inside k p found) before.0 before.1 before.2 gone))
            | inr same ↦ (let e : index ≡ k = omega (arith, from, same) in
                let own : head.start.packet ≡ p = same_Some head.start.packet p (sym at-place ∙ ap (slice_get (channel_packets c (scan_of shape h).packets)) e ∙ found) in
                sent-fresh shape.rate t (scan_of shape h).packets head (subst (λ x. has_departed shape.rate (starts_below shape.rate (scan_of shape h).packets t) t x ≡ true) (sym own) gone))
          ]
