-- A busy period ends within a window into which its work and the blocking fit.
use Rattle.std.proofs.Common.{◌≡◌, ℕ, zero, suc, ◌+◌, ◌<◌, ◌≤◌, ◌⊎◌, Bool, true, false, cond, ◌&&◌, ◌||◌, List, [], ◌∷◌, get_or, Option, Some, None, refl, sym, ap, ◌∙◌, inl, inr, ⊎_elim, arith}
use Rattle.std.proofs.lemmas.Bool.{cases_Bool, leb-true, le-leb, ltb-true, ltb-false, lt-ltb, eq-eqb, eqb-true, cases_lt, and_parts, and_from, or_cases, or_left, or_right, or_parts, true≢false, not-true, cond_both}
use Rattle.std.proofs.lemmas.Option.{same_Some}
use Rattle.std.specs.Prelude.{filter, nat_lt, nat_eq, if◌then◌else◌}
use Rattle.traffic_contract.specs.Admission.{total}
use Rattle.traffic_contract.proofs.AdmissionTest.{total-le}
use Rattle.link_steps.specs.BusyPeriod.{IsGone, IsClear, HasWork, is_eligible_in, window_work, EndsWithin, FitsWindow}
use Rattle.link_steps.specs.Lists.{Each, Among}
use Rattle.link_steps.specs.Service.{Arrival, Start, work_of, leaves_at, goes_before, sooner, first_in_line, is_start_of, has_started, is_waiting, is_busy, add_start, serve_tick, starts_below, is_departure_by, has_departed}
use Rattle.link_steps.proofs.SearchAndFilter.{Each-if, Each-among, Among-filter, total-drop}
use Rattle.link_steps.proofs.ServiceStarts.{HasLeft, HasBegun, left-idle, starts-follow, starts-begun, starts-fact}

-- ---- started and departed

-- what has departed has started
pub departed-has-started : (rate t : ℕ) (starts : List Start) (p : Arrival) → has_departed rate starts t p ≡ true → has_started starts p ≡ true
departed-has-started rate t [] p departed = departed
departed-has-started rate t (start ∷ earlier) p departed =
    ⊎_elim (λ (now : is_departure_by rate t p start ≡ true). or_left (is_start_of p start) (has_started earlier p) (and_parts _ _ now).0)
    (λ (before : has_departed rate earlier t p ≡ true). or_right (is_start_of p start) (has_started earlier p) (departed-has-started rate t earlier p before))
    (or_cases (is_departure_by rate t p start) (has_departed rate earlier t p) departed)

-- what has started, where all have left by t, has departed by then
started-has-departed : (rate t : ℕ) (starts : List Start) (p : Arrival) → Each (HasLeft rate t) starts → has_started starts p ≡ true → has_departed rate starts t p ≡ true
started-has-departed rate t [] p left started = started
started-has-departed rate t (start ∷ earlier) p left started =
    ⊎_elim (λ (now : is_start_of p start ≡ true). or_left (is_departure_by rate t p start) (has_departed rate earlier t p) (and_from _ _ now (le-leb (leaves_at rate start) t left.0)))
    (λ (before : has_started earlier p ≡ true). or_right (is_departure_by rate t p start) (has_departed rate earlier t p) (started-has-departed rate t earlier p left.1 before))
    (or_cases (is_start_of p start) (has_started earlier p) started)

-- one more start keeps what has started, and what has departed
add-started : (best : Option Arrival) (t : ℕ) (starts : List Start) (p : Arrival) → has_started starts p ≡ true → has_started (add_start best t starts) p ≡ true
add-started None t starts p started = started
add-started (Some q) t starts p started = or_right (is_start_of p (record { packet = q; tick = t })) (has_started starts p) started

pub add-departed : (rate u : ℕ) (best : Option Arrival) (t : ℕ) (starts : List Start) (p : Arrival) → has_departed rate starts u p ≡ true → has_departed rate (add_start best t starts) u p ≡ true
add-departed rate u None t starts p departed = departed
add-departed rate u (Some q) t starts p departed = or_right (is_departure_by rate u p (record { packet = q; tick = t })) (has_departed rate starts u p) departed

-- what has started stays so
started-later : (rate : ℕ) (packets : List Arrival) (t k : ℕ) (p : Arrival) → has_started (starts_below rate packets t) p ≡ true → has_started (starts_below rate packets (k + t)) p ≡ true
unfolding starts_below serve_tick
started-later rate packets t zero p started = (let e : zero + t ≡ t = omega arith in rw e started)
started-later rate packets t (suc k) p started =
    let e : suc k + t ≡ suc (k + t) = omega arith in
    let before = started-later rate packets t k p started in
    rw e (cond_both (is_busy rate (starts_below rate packets (k + t)) (k + t)) (starts_below rate packets (k + t)) (add_start (first_in_line (filter (is_waiting (starts_below rate packets (k + t)) (k + t)) packets)) (k + t) (starts_below rate packets (k + t))) (λ starts. has_started starts p ≡ true)
    (λ _. before) (λ _. add-started (first_in_line (filter (is_waiting (starts_below rate packets (k + t)) (k + t)) packets)) (k + t) (starts_below rate packets (k + t)) p before))

-- ---- who starts

-- the sooner of p and the best of others is p or that best one
sooner-either : (p : Arrival) (best : Option Arrival) → (sooner p best ≡ p) ⊎ (best ≡ Some (sooner p best))
sooner-either p None = inl refl
sooner-either p (Some r) = cond_both (goes_before r p) r p (λ q. (q ≡ p) ⊎ (Some r ≡ Some q)) (λ _. inr refl) (λ _. inl refl)

-- the first in line is one of the line
first_in_line-among : (ps : List Arrival) (q : Arrival) → first_in_line ps ≡ Some q → Among q ps
unfolding first_in_line
first_in_line-among [] q found = cc
first_in_line-among (p ∷ ps) q found =
    let same = same_Some (sooner p (first_in_line ps)) q found in
    ⊎_elim (λ (own : sooner p (first_in_line ps) ≡ p). inl (sym same ∙ own))
    (λ (other : first_in_line ps ≡ Some (sooner p (first_in_line ps))). inr (first_in_line-among ps q (other ∙ ap Some same)))
    (sooner-either p (first_in_line ps))

-- a packet that goes before another is of no larger level, and one that doesn't of no smaller level
before-level : (p q : Arrival) → goes_before p q ≡ true → p.level ≤ q.level
unfolding goes_before
before-level p q before =
    ⊎_elim (λ (less : nat_lt p.level q.level ≡ true). (let h = ltb-true p.level q.level less in omega (arith, h)))
    (λ (same : (nat_eq p.level q.level && (nat_lt p.eligible q.eligible || (nat_eq p.eligible q.eligible && nat_lt p.place q.place))) ≡ true). (let h = eqb-true p.level q.level (and_parts _ _ same).0 in omega (arith, h)))
    (or_cases _ _ before)

not_before-level : (p q : Arrival) → goes_before p q ≡ false → q.level ≤ p.level
unfolding goes_before
not_before-level p q not_before = ltb-false p.level q.level (or_parts _ _ not_before).0

-- the sooner of two is of no larger level than either
sooner-level : (p : Arrival) (best : Option Arrival) (m : ℕ) → p.level ≤ m → (sooner p best).level ≤ m
sooner-level p None m upto = upto
sooner-level p (Some r) m upto = cond_both (goes_before r p) r p (λ q. q.level ≤ m) (λ before. (let h = before-level r p before in omega (arith, h))) (λ _. upto)

sooner-level-other : (p r : Arrival) (m : ℕ) → r.level ≤ m → (sooner p (Some r)).level ≤ m
sooner-level-other p r m upto = cond_both (goes_before r p) r p (λ q. q.level ≤ m) (λ _. upto) (λ not_before. (let h = not_before-level r p not_before in omega (arith, h)))

-- the first of these that waits is of the levels up to m
pub record IsServed (m t : ℕ) (starts : List Start) (ps : List Arrival) : Type 0 where
  pub packet : Arrival
  pub found : first_in_line (filter (is_waiting starts t) ps) ≡ Some packet
  pub level : packet.level ≤ m

served-after : (m t : ℕ) (starts : List Start) (p : Arrival) (ps : List Arrival) → IsServed m t starts ps → IsServed m t starts (p ∷ ps)
unfolding first_in_line
served-after m t starts p ps served = by-test (is_waiting starts t p) refl where
  by-test : (b : Bool) → is_waiting starts t p ≡ b → IsServed m t starts (p ∷ ps)
  by-test true waits = record {
    packet = sooner p (Some served.packet);
    found = rw (waits, served.found) refl;
    level = sooner-level-other p served.packet m served.level;
  }
  by-test false waits = record { packet = served.packet; found = rw waits served.found; level = served.level }

served-first : (m t : ℕ) (starts : List Start) (p : Arrival) (ps : List Arrival) → is_waiting starts t p ≡ true → p.level ≤ m → IsServed m t starts (p ∷ ps)
unfolding first_in_line
served-first m t starts p ps waits upto = record {
  packet = sooner p (first_in_line (filter (is_waiting starts t) ps));
  found = rw waits refl;
  level = sooner-level p (first_in_line (filter (is_waiting starts t) ps)) m upto;
}

-- whether p is gone, or waits at a level up to m
gone-or-waits : (rate m t : ℕ) (starts after : List Start) (p : Arrival) → (has_started starts p ≡ true → has_departed rate after (suc t) p ≡ true) → IsGone rate after m (suc t) p ⊎ ((is_waiting starts t p ≡ true) × (p.level ≤ m))
unfolding is_waiting
gone-or-waits rate m t starts after p departs =
    ⊎_elim (λ (lower : m < p.level). inl (λ upto before. absurd (omega arith)))
    (λ (upto : p.level ≤ m).
    ⊎_elim (λ (later : t < p.eligible). inl (λ _ before. absurd (omega arith)))
    (λ (by : p.eligible ≤ t).
    ⊎_elim (λ (started : has_started starts p ≡ true). inl (λ _ before. departs started))
    (λ (waits : has_started starts p ≡ false). inr (rw (le-leb p.eligible t by, waits) refl, upto))
    (cases_Bool (has_started starts p)))
    (cases_lt t p.eligible))
    (cases_lt m p.level)

-- where no packet occupies the link in tick t: either the link is clear at the next tick, or one of the levels up to
-- m starts
clear-or-served : (rate m t : ℕ) (starts after : List Start) (ps : List Arrival) → ((p : Arrival) → has_started starts p ≡ true → has_departed rate after (suc t) p ≡ true) → Each (IsGone rate after m (suc t)) ps ⊎ IsServed m t starts ps
clear-or-served rate m t starts after [] departs = inl tt
clear-or-served rate m t starts after (p ∷ ps) departs =
    ⊎_elim (λ (gone : Each (IsGone rate after m (suc t)) ps).
    ⊎_elim (λ (own : IsGone rate after m (suc t) p). inl (own, gone))
    (λ (waits : (is_waiting starts t p ≡ true) × (p.level ≤ m)). inr (served-first m t starts p ps waits.0 waits.1))
    (gone-or-waits rate m t starts after p (departs p)))
    (λ (served : IsServed m t starts ps). inr (served-after m t starts p ps served))
    (clear-or-served rate m t starts after ps departs)

-- ---- the work that is left

-- a packet of the window that hasn't started, and its work
abbrev waiting_work : ℕ → ℕ → ℕ → ℕ → List Start → Arrival → ℕ
waiting_work rate m t0 w starts p = if has_started starts p then 0 else window_work rate m t0 w p

abbrev work_left : ℕ → ℕ → ℕ → ℕ → List Arrival → List Start → ℕ
work_left rate m t0 w packets starts = total (waiting_work rate m t0 w starts) packets

-- the tick at which the link is free of the packet that started last
abbrev free_at : ℕ → List Start → ℕ
free_at rate [] = 0
free_at rate (start ∷ earlier) = leaves_at rate start

-- at tick t the link works without a pause, and all that is left fits the window
pub record WorksOn (rate m t0 w t : ℕ) (packets : List Arrival) : Type 0 where
  pub now : t + work_left rate m t0 w packets (starts_below rate packets t) < t0 + w
  pub free : free_at rate (starts_below rate packets t) + work_left rate m t0 w packets (starts_below rate packets t) < t0 + w

-- a start takes its work from what is left
work_left-start : (rate m t0 w t : ℕ) (packets : List Arrival) (starts : List Start) (q : Arrival) → Among q packets → has_started starts q ≡ false → is_eligible_in m t0 w q ≡ true → work_left rate m t0 w packets (record { packet = q; tick = t } ∷ starts) + work_of rate q ≤ work_left rate m t0 w packets starts
work_left-start rate m t0 w t packets starts q among waits inside =
    total-drop (waiting_work rate m t0 w starts) (waiting_work rate m t0 w (record { packet = q; tick = t } ∷ starts)) (work_of rate q) q packets
    (λ p. less (is_start_of p (record { packet = q; tick = t })) (has_started starts p) (window_work rate m t0 w p)) among
    (rw (eq-eqb q.place q.place refl, waits, inside) (omega arith)) where
      less : (own other : Bool) (work : ℕ) → cond (own || other) 0 work ≤ cond other 0 work
      less true true work = omega arith
      less true false work = omega arith
      less false other work = omega arith

-- what is left is at most what the window brings
work_left-most : (rate m t0 w : ℕ) (packets : List Arrival) (starts : List Start) → work_left rate m t0 w packets starts ≤ total (window_work rate m t0 w) packets
work_left-most rate m t0 w packets starts =
    total-le (waiting_work rate m t0 w starts) (window_work rate m t0 w) packets (λ k d inside. less (has_started starts (get_or packets k d)) (window_work rate m t0 w (get_or packets k d))) where
      less : (b : Bool) (work : ℕ) → cond b 0 work ≤ work
      less true work = omega arith
      less false work = omega arith

-- the packet that started last leaves within the blocking
free_at-blocking : (rate blocking t : ℕ) (starts : List Start) → 1 ≤ blocking → Each (HasBegun t) starts → Each (λ start. HasWork rate blocking start.packet) starts → free_at rate starts < t + blocking
free_at-blocking rate blocking t [] some begun works = omega arith
free_at-blocking rate blocking t (start ∷ earlier) some begun works = omega (arith, begun.0, works.0.most)

-- at the beginning
begins : (rate blocking : ℕ) (packets : List Arrival) (m t0 w : ℕ) → 1 ≤ blocking → Each (HasWork rate blocking) packets → FitsWindow rate blocking packets m t0 w → WorksOn rate m t0 w t0 packets
begins rate blocking packets m t0 w some works fits =
    let most = work_left-most rate m t0 w packets (starts_below rate packets t0) in
    let free = free_at-blocking rate blocking t0 (starts_below rate packets t0) some (starts-begun rate packets t0) (starts-fact (HasWork rate blocking) rate packets t0 works) in
    record { now = omega (arith, most, fits.work); free = omega (arith, most, free, fits.work) }

-- tick t where a packet occupies the link, and where none does
starts-busy : (rate : ℕ) (packets : List Arrival) (t : ℕ) → is_busy rate (starts_below rate packets t) t ≡ true → starts_below rate packets (suc t) ≡ starts_below rate packets t
unfolding starts_below serve_tick
starts-busy rate packets t busy = rw busy refl

starts-idle : (rate : ℕ) (packets : List Arrival) (t : ℕ) (best : Option Arrival) → is_busy rate (starts_below rate packets t) t ≡ false → first_in_line (filter (is_waiting (starts_below rate packets t) t) packets) ≡ best → starts_below rate packets (suc t) ≡ add_start best t (starts_below rate packets t)
unfolding starts_below serve_tick
starts-idle rate packets t best idle first = rw (idle, first) refl

-- while a packet occupies the link
free_at-busy : (rate t : ℕ) (starts : List Start) → is_busy rate starts t ≡ true → t < free_at rate starts
free_at-busy rate t [] busy = cc
free_at-busy rate t (start ∷ earlier) busy = ltb-true t (leaves_at rate start) busy

works-busy : (rate m t0 w t : ℕ) (packets : List Arrival) → is_busy rate (starts_below rate packets t) t ≡ true → WorksOn rate m t0 w t packets → WorksOn rate m t0 w (suc t) packets
works-busy rate m t0 w t packets busy on =
    let later = free_at-busy rate t (starts_below rate packets t) busy in
    let free = on.free in
    record {
      now = rw (starts-busy rate packets t busy) (omega (arith, later, free));
      free = rw (starts-busy rate packets t busy) on.free;
    }

-- a packet that waits hasn't started
pub waits-fresh : (starts : List Start) (t : ℕ) (p : Arrival) → is_waiting starts t p ≡ true → has_started starts p ≡ false
unfolding is_waiting
waits-fresh starts t p waits = not-true _ (and_parts _ _ waits).1

-- a packet of the levels up to m that waits in tick t is one of the window
waits-inside : (rate : ℕ) (packets : List Arrival) (m t0 w k : ℕ) (q : Arrival) → IsClear rate packets m t0 → k + t0 < t0 + w → Among q packets → q.level ≤ m → is_waiting (starts_below rate packets (k + t0)) (k + t0) q ≡ true → is_eligible_in m t0 w q ≡ true
unfolding is_waiting
waits-inside rate packets m t0 w k q clear within among upto waits =
    let both = and_parts _ _ waits in
    let by = leb-true q.eligible (k + t0) both.0 in
    let fresh = not-true _ both.1 in
    ⊎_elim (λ (early : q.eligible < t0).
    let gone = Each-among (IsGone rate (starts_below rate packets t0) m t0) q packets clear among upto early in
    let started = started-later rate packets t0 k q (departed-has-started rate t0 (starts_below rate packets t0) q gone) in
    absurd (true≢false (sym started ∙ fresh)))
    (λ (late : t0 ≤ q.eligible).
    and_from _ _ (le-leb q.level m upto) (and_from _ _ (le-leb t0 q.eligible late) (lt-ltb q.eligible (t0 + w) (omega (arith, by)))))
    (cases_lt q.eligible t0)

-- the link that works on takes up one of the window's packets
works-served : (rate blocking : ℕ) (packets : List Arrival) (m t0 w k : ℕ) → Each (HasWork rate blocking) packets → IsClear rate packets m t0 → k + t0 < t0 + w → is_busy rate (starts_below rate packets (k + t0)) (k + t0) ≡ false → WorksOn rate m t0 w (k + t0) packets → IsServed m (k + t0) (starts_below rate packets (k + t0)) packets → WorksOn rate m t0 w (suc (k + t0)) packets
works-served rate blocking packets m t0 w k works clear within idle on served =
    let waits = Among-filter (is_waiting (starts_below rate packets (k + t0)) (k + t0)) served.packet packets (first_in_line-among _ served.packet served.found) in
    let inside = waits-inside rate packets m t0 w k served.packet clear within waits.0 served.level waits.1 in
    let fresh = waits-fresh (starts_below rate packets (k + t0)) (k + t0) served.packet waits.1 in
    let takes = work_left-start rate m t0 w (k + t0) packets (starts_below rate packets (k + t0)) served.packet waits.0 fresh inside in
    let least = (Each-among (HasWork rate blocking) served.packet packets works waits.0).least in
    let now = on.now in
    record {
      now = rw (starts-idle rate packets (k + t0) (Some served.packet) idle served.found) (omega (arith, takes, least, now));
      free = rw (starts-idle rate packets (k + t0) (Some served.packet) idle served.found) (omega (arith, takes, least, now));
    }

-- through a tick
goes-on : (rate blocking : ℕ) (packets : List Arrival) (m t0 w k : ℕ) → Each (HasWork rate blocking) packets → IsClear rate packets m t0 → k + t0 < t0 + w → WorksOn rate m t0 w (k + t0) packets → IsClear rate packets m (suc (k + t0)) ⊎ WorksOn rate m t0 w (suc (k + t0)) packets
goes-on rate blocking packets m t0 w k works clear within on =
    ⊎_elim (λ (busy : is_busy rate (starts_below rate packets (k + t0)) (k + t0) ≡ true). inr (works-busy rate m t0 w (k + t0) packets busy on))
    (λ (idle : is_busy rate (starts_below rate packets (k + t0)) (k + t0) ≡ false).
    let left = left-idle rate (k + t0) (starts_below rate packets (k + t0)) (starts-follow rate packets (k + t0)) idle in
    let after : List Start = add_start (first_in_line (filter (is_waiting (starts_below rate packets (k + t0)) (k + t0)) packets)) (k + t0) (starts_below rate packets (k + t0)) in
    ⊎_elim (λ (gone : Each (IsGone rate (add_start (first_in_line (filter (is_waiting (starts_below rate packets (k + t0)) (k + t0)) packets)) (k + t0) (starts_below rate packets (k + t0))) m (suc (k + t0))) packets).
    inl (rw (starts-idle rate packets (k + t0) _ idle refl) gone))
    (λ (served : IsServed m (k + t0) (starts_below rate packets (k + t0)) packets). inr (works-served rate blocking packets m t0 w k works clear within idle on served))
    (clear-or-served rate m (k + t0) (starts_below rate packets (k + t0)) _ packets (λ p started.
    add-departed rate (suc (k + t0)) (first_in_line (filter (is_waiting (starts_below rate packets (k + t0)) (k + t0)) packets)) (k + t0) (starts_below rate packets (k + t0)) p
    (started-has-departed rate (suc (k + t0)) (starts_below rate packets (k + t0)) p (Each-if (HasLeft rate (k + t0)) (HasLeft rate (suc (k + t0))) (starts_below rate packets (k + t0)) (λ start h. omega arith) left) started))))
    (cases_Bool (is_busy rate (starts_below rate packets (k + t0)) (k + t0)))

-- so a clear tick comes, or the link works on
comes-or-works : (rate blocking : ℕ) (packets : List Arrival) (m t0 w k : ℕ) → 1 ≤ blocking → Each (HasWork rate blocking) packets → IsClear rate packets m t0 → FitsWindow rate blocking packets m t0 w → k ≤ w → EndsWithin rate packets m t0 w ⊎ WorksOn rate m t0 w (k + t0) packets
comes-or-works rate blocking packets m t0 w zero some works clear fits within =
    let e : zero + t0 ≡ t0 = omega arith in inr (rw e (begins rate blocking packets m t0 w some works fits))
comes-or-works rate blocking packets m t0 w (suc k) some works clear fits within =
    ⊎_elim (λ (ends : EndsWithin rate packets m t0 w). inl ends)
    (λ (on : WorksOn rate m t0 w (k + t0) packets).
    ⊎_elim (λ (comes : IsClear rate packets m (suc (k + t0))). inl (record { end = suc (k + t0); after = omega arith; within = omega arith; clear = comes }))
    (λ (works_on : WorksOn rate m t0 w (suc (k + t0)) packets). (let e : suc k + t0 ≡ suc (k + t0) = omega arith in inr (rw e works_on)))
    (goes-on rate blocking packets m t0 w k works clear (omega arith) on))
    (comes-or-works rate blocking packets m t0 w k some works clear fits (omega arith))

-- within w ticks the link comes to be clear: else it would work on for longer than the work fits
pub busy_period-ends : (rate blocking : ℕ) (packets : List Arrival) (m t w : ℕ) → Each (HasWork rate blocking) packets → IsClear rate packets m t → FitsWindow rate blocking packets m t w → EndsWithin rate packets m t w
busy_period-ends rate blocking [] m t w works clear fits = record { end = suc t; after = omega arith; within = omega (arith, fits.some); clear = tt }
busy_period-ends rate blocking (p ∷ ps) m t w works clear fits =
    let least = works.0.least in
    let most = works.0.most in
    ⊎_elim (λ (ends : EndsWithin rate (p ∷ ps) m t w). ends)
    (λ (on : WorksOn rate m t w (w + t) (p ∷ ps)). absurd (let now = on.now in omega (arith, now)))
    (comes-or-works rate blocking (p ∷ ps) m t w w (omega (arith, least, most)) works clear fits (omega arith))
