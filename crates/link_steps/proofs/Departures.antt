-- Over a list of packets of which every window of w ticks leaves room for the blocking, each packet of the levels up to
-- m departs within w ticks of its eligible tick, and later than that tick.
use Rattle.std.proofs.Common.{◌≡◌, ℕ, zero, suc, ◌+◌, ◌-◌, ◌<◌, ◌≤◌, true, false, List, [], ◌∷◌, Option, Some, None, inl, inr, ⊎_elim, refl, sym, ◌∙◌, subst, arith}
use Rattle.std.proofs.lemmas.Bool.{cases_lt, leb-true, le-leb, eq-eqb, eqb-true, and_parts, and_from, or_cases, or_left, or_right, or_parts, true≢false, cond_both}
use Rattle.std.specs.Prelude.{filter, nat_eq}
use Rattle.link_steps.specs.BusyPeriod.{IsClear, IsGone, HasWork, FitsWithin, EndsWithin}
use Rattle.link_steps.specs.Lists.{Each, Among}
use Rattle.link_steps.specs.Service.{Arrival, Start, leaves_at, first_in_line, is_start_of, has_started, is_waiting, is_busy, add_start, serve_tick, starts_below, is_departure_by, has_departed}
use Rattle.link_steps.proofs.BusyPeriods.{busy_period-ends, add-departed, departed-has-started, waits-fresh}
use Rattle.link_steps.proofs.FoundElements.{Each-passes}
use Rattle.link_steps.proofs.SearchAndFilter.{Each-from, Each-among}
use Rattle.link_steps.proofs.ServiceStarts.{first_in_line-fact}

-- ---- clear ticks follow one another

-- nothing was eligible before tick 0
clear-first : (rate : ℕ) (packets : List Arrival) (m : ℕ) → IsClear rate packets m 0
clear-first rate packets m = Each-from (IsGone rate (starts_below rate packets 0) m 0) packets (λ p upto before. absurd (omega arith))

-- from one clear tick to the next, in k steps at most, beyond e
clear-from : (rate blocking : ℕ) (packets : List Arrival) (m w : ℕ) → Each (HasWork rate blocking) packets → ((u : ℕ) → FitsWithin rate blocking packets m u w) → (k u e : ℕ) → IsClear rate packets m u → u ≤ e → e < u + k → EndsWithin rate packets m e w
clear-from rate blocking packets m w works fits zero u e clear upto near = absurd (omega arith)
clear-from rate blocking packets m w works fits (suc k) u e clear upto near =
    let room = fits u in
    let next = busy_period-ends rate blocking packets m u room.window works clear room.fits in
    let after = next.after in
    let within : next.end ≤ u + w = omega (arith, next.within, room.upto) in
    ⊎_elim
    (λ (rest : e < next.end). record { end = next.end; after = rest; within = omega (arith, within); clear = next.clear })
    (λ (before : next.end ≤ e). clear-from rate blocking packets m w works fits k next.end e next.clear before (omega (arith, after)))
    (cases_lt e next.end)

-- after every tick there is a clear one, w ticks later at most
pub clear-after : (rate blocking : ℕ) (packets : List Arrival) (m w : ℕ) → Each (HasWork rate blocking) packets → ((u : ℕ) → FitsWithin rate blocking packets m u w) → (e : ℕ) → EndsWithin rate packets m e w
clear-after rate blocking packets m w works fits e =
    clear-from rate blocking packets m w works fits (suc e) 0 e (clear-first rate packets m) (omega arith) (omega arith)

-- ---- each packet departs

-- a tick within w of the eligible tick by which the packet has departed
pub record DepartsWithin (rate : ℕ) (packets : List Arrival) (w : ℕ) (p : Arrival) : Type 0 where
  pub tick : ℕ
  pub within : tick ≤ p.eligible + w
  pub departed : has_departed rate (starts_below rate packets tick) tick p ≡ true

-- the clear tick after a packet's eligible tick is one by which it has departed
pub departs-within : (rate blocking : ℕ) (packets : List Arrival) (w : ℕ) (p : Arrival) → Each (HasWork rate blocking) packets → ((u : ℕ) → FitsWithin rate blocking packets p.level u w) → Among p packets → DepartsWithin rate packets w p
departs-within rate blocking packets w p works fits among =
    let next = clear-after rate blocking packets p.level w works fits p.eligible in
    let gone = Each-among (IsGone rate (starts_below rate packets next.end) p.level next.end) p packets next.clear among in
    record { tick = next.end; within = next.within; departed = gone (omega arith) next.after }

-- ---- what has departed stays so

-- in the starts of k more ticks
departed-more : (rate : ℕ) (packets : List Arrival) (c t k : ℕ) (p : Arrival) → has_departed rate (starts_below rate packets t) c p ≡ true → has_departed rate (starts_below rate packets (k + t)) c p ≡ true
unfolding starts_below serve_tick
departed-more rate packets c t zero p departed = (let e : zero + t ≡ t = omega arith in rw e departed)
departed-more rate packets c t (suc k) p departed =
    let e : suc k + t ≡ suc (k + t) = omega arith in
    let before = departed-more rate packets c t k p departed in
    rw e (cond_both (is_busy rate (starts_below rate packets (k + t)) (k + t)) (starts_below rate packets (k + t)) (add_start (first_in_line (filter (is_waiting (starts_below rate packets (k + t)) (k + t)) packets)) (k + t) (starts_below rate packets (k + t))) (λ starts. has_departed rate starts c p ≡ true)
    (λ _. before) (λ _. add-departed rate c (first_in_line (filter (is_waiting (starts_below rate packets (k + t)) (k + t)) packets)) (k + t) (starts_below rate packets (k + t)) p before))

-- by a tick that is no earlier
departed-by : (rate c d : ℕ) (starts : List Start) (p : Arrival) → c ≤ d → has_departed rate starts c p ≡ true → has_departed rate starts d p ≡ true
departed-by rate c d [] p later departed = departed
departed-by rate c d (start ∷ earlier) p later departed =
    ⊎_elim (λ (now : is_departure_by rate c p start ≡ true).
    let both = and_parts _ _ now in
    let by : leaves_at rate start ≤ c = leb-true (leaves_at rate start) c both.1 in
    or_left (is_departure_by rate d p start) (has_departed rate earlier d p) (and_from _ _ both.0 (le-leb (leaves_at rate start) d (omega arith))))
    (λ (before : has_departed rate earlier c p ≡ true). or_right (is_departure_by rate d p start) (has_departed rate earlier d p) (departed-by rate c d earlier p later before))
    (or_cases (is_departure_by rate c p start) (has_departed rate earlier c p) departed)

-- in the starts of a later tick, by a tick that is no earlier
pub departed-at : (rate : ℕ) (packets : List Arrival) (c t d u : ℕ) (p : Arrival) → c ≤ d → t ≤ u → has_departed rate (starts_below rate packets t) c p ≡ true → has_departed rate (starts_below rate packets u) d p ≡ true
departed-at rate packets c t d u p by later departed = at-sum (u - t) (omega arith) where
  at-sum : (k : ℕ) → k + t ≡ u → has_departed rate (starts_below rate packets u) d p ≡ true
  at-sum k same = departed-by rate c d (starts_below rate packets u) p by (subst (λ v. has_departed rate (starts_below rate packets v) c p ≡ true) same (departed-more rate packets c t k p departed))

-- ---- a packet starts once, when it is eligible

-- an earlier start is of another packet
abbrev IsOfOther : Start → Start → Type 0
IsOfOther start other = nat_eq other.packet.place start.packet.place ≡ false

-- no two starts are of one packet
abbrev pub StartOnce : List Start → Type 0
StartOnce [] = Unit {0}
StartOnce (start ∷ earlier) = Each (IsOfOther start) earlier × StartOnce earlier

-- no start is of a packet that hasn't started
none-started : (starts : List Start) (p : Arrival) → has_started starts p ≡ false → Each (λ start. is_start_of p start ≡ false) starts
none-started [] p fresh = tt
none-started (start ∷ earlier) p fresh = (let both = or_parts (is_start_of p start) (has_started earlier p) fresh in (both.0, none-started earlier p both.1))

-- and the other way round
not-started : (starts : List Start) (p : Arrival) → Each (λ start. is_start_of p start ≡ false) starts → has_started starts p ≡ false
not-started [] p none = refl
not-started (start ∷ earlier) p none = rw (none.0, not-started earlier p none.1) refl

-- what is true of the starts, and of each packet that waits and may start, is true of the starts after it
starts-kept : (P : List Start → Type 0) (rate : ℕ) (packets : List Arrival) → P [] → ((starts : List Start) (t : ℕ) (p : Arrival) → P starts → is_waiting starts t p ≡ true → P (record { packet = p; tick = t } ∷ starts)) → (t : ℕ) → P (starts_below rate packets t)
unfolding starts_below serve_tick
starts-kept P rate packets none more zero = none
starts-kept P rate packets none more (suc t) =
    let before = starts-kept P rate packets none more t in
    cond_both (is_busy rate (starts_below rate packets t) t) (starts_below rate packets t) (add_start (first_in_line (filter (is_waiting (starts_below rate packets t) t) packets)) t (starts_below rate packets t)) P
    (λ _. before)
    (λ _. add-kept (first_in_line (filter (is_waiting (starts_below rate packets t) t) packets)) (starts_below rate packets t)
    (λ p first. more (starts_below rate packets t) t p before (first_in_line-fact (λ q. is_waiting (starts_below rate packets t) t q ≡ true) (filter (is_waiting (starts_below rate packets t) t) packets) p (Each-passes (is_waiting (starts_below rate packets t) t) packets) first)) before) where
      add-kept : (best : Option Arrival) (starts : List Start) → ((p : Arrival) → best ≡ Some p → P (record { packet = p; tick = t } ∷ starts)) → P starts → P (add_start best t starts)
      add-kept None starts fact before = before
      add-kept (Some p) starts fact before = fact p refl

-- no packet starts twice
pub starts-once : (rate : ℕ) (packets : List Arrival) (t : ℕ) → StartOnce (starts_below rate packets t)
starts-once rate packets t =
    starts-kept StartOnce rate packets tt (λ starts u p once waits. (none-started starts p (waits-fresh starts u p waits), once)) t

-- a packet starts at its eligible tick or later
abbrev pub IsEligibleStart : Start → Type 0
IsEligibleStart start = start.packet.eligible ≤ start.tick

-- no packet starts before it is eligible
pub starts-eligible : (rate : ℕ) (packets : List Arrival) (t : ℕ) → Each IsEligibleStart (starts_below rate packets t)
unfolding is_waiting
starts-eligible rate packets t =
    starts-kept (Each IsEligibleStart) rate packets tt (λ starts u p before waits. (leb-true p.eligible u (and_parts _ _ waits).0, before)) t

-- a start of a packet that has departed by c is the one that left by then
pub leaves-once : (rate c : ℕ) (starts : List Start) (start : Start) → StartOnce starts → Among start starts → has_departed rate starts c start.packet ≡ true → leaves_at rate start ≤ c
leaves-once rate c [] start once among departed = absurd among
leaves-once rate c (first ∷ earlier) start once (inl same) departed =
    ⊎_elim (λ (now : is_departure_by rate c start.packet first ≡ true).
    let by : leaves_at rate first ≤ c = leb-true (leaves_at rate first) c (and_parts _ _ now).1 in
    subst (λ s. leaves_at rate s ≤ c) (sym same) by)
    (λ (before : has_departed rate earlier c start.packet ≡ true).
    let started = departed-has-started rate c earlier start.packet before in
    let fresh = not-started earlier start.packet (subst (λ s. Each (IsOfOther s) earlier) (sym same) once.0) in
    absurd (true≢false (sym started ∙ fresh)))
    (or_cases (is_departure_by rate c start.packet first) (has_departed rate earlier c start.packet) departed)
leaves-once rate c (first ∷ earlier) start once (inr among) departed =
    ⊎_elim (λ (now : is_departure_by rate c start.packet first ≡ true).
    let own = eqb-true first.packet.place start.packet.place (and_parts _ _ now).0 in
    let other = Each-among (IsOfOther first) start earlier once.0 among in
    absurd (true≢false (sym (eq-eqb start.packet.place first.packet.place (sym own)) ∙ other)))
    (λ (before : has_departed rate earlier c start.packet ≡ true). leaves-once rate c earlier start once.1 among before)
    (or_cases (is_departure_by rate c start.packet first) (has_departed rate earlier c start.packet) departed)
