-- The packets here and the one that occupies the link are all that service needs of the past.
use Rattle.std.proofs.Common.{◌≡◌, ℕ, suc, ◌<◌, ◌≤◌, Bool, true, false, not, cond, ◌&&◌, ◌||◌, List, [], ◌∷◌, ◌++◌, Option, Some, None, refl, sym, ap, ◌∙◌, ⊎_elim, arith, length}
use Rattle.std.proofs.Math.Bool.{and_comm, and-true}
use Rattle.std.proofs.lemmas.Bool.{le-leb, lt-leb, ltb-true, lt-ltb, le-ltb, ne_eqb, cases_lt}
use Rattle.std.proofs.lemmas.List.Elements.{filter-append}
use Rattle.std.specs.Prelude.{filter, nat_le, nat_lt}
use Rattle.link_steps.specs.declared.shape.LinkShape.{LinkShape}
use Rattle.link_steps.specs.Account.{waits_here, best_departs, start_on, is_eligible_by, start_at, served, still_on, departs, is_other, still_here}
use Rattle.link_steps.specs.Lists.{Each}
use Rattle.link_steps.specs.Replies.{sent_at, best_sent_at}
use Rattle.link_steps.specs.BestEffort.{is_best, waits_best, waiting_best}
use Rattle.link_steps.specs.Service.{Arrival, Start, leaves_at, first_in_line, is_start_of, has_started, is_waiting, is_busy, add_start, serve_tick, starts_below, has_departed, is_here, here_at}
use Rattle.link_steps.proofs.SearchAndFilter.{Each-from, Each-if, filter-same, filter-all, filter-filter}
use Rattle.link_steps.proofs.ServiceStarts.{IsFrom, HasLeft, FollowEachOther, HasBegun, starts_below-append, starts-begun, left-idle, starts-follow, starts-fact}

-- ---- what has left

-- where all that have started have left by t, a packet has departed exactly where it has started
departed-started : (rate t : ℕ) (starts : List Start) (p : Arrival) → Each (HasLeft rate t) starts → has_departed rate starts t p ≡ has_started starts p
departed-started rate t [] p left = refl
departed-started rate t (start ∷ earlier) p left =
    rw (le-leb (leaves_at rate start) t left.0, departed-started rate t earlier p left.1) (ap (λ b. b || has_started earlier p) (and-true (is_start_of p start)))

-- so nobody departs in the tick after
departed-later : (rate t : ℕ) (starts : List Start) (p : Arrival) → Each (HasLeft rate t) starts → has_departed rate starts (suc t) p ≡ has_departed rate starts t p
departed-later rate t starts p left =
    departed-started rate (suc t) starts p (Each-if (HasLeft rate t) (HasLeft rate (suc t)) starts (λ start h. omega arith) left) ∙ sym (departed-started rate t starts p left)

-- ---- who waits when no packet occupies the link

waits-here : (rate t : ℕ) (starts : List Start) (packets : List Arrival) → Each (HasLeft rate t) starts → filter (is_waiting starts t) packets ≡ filter (is_eligible_by t) (filter (is_here rate starts t) packets)
unfolding is_waiting
waits-here rate t starts packets left =
    filter-same (is_waiting starts t) (λ p. is_here rate starts t p && is_eligible_by t p) packets
    (Each-from _ packets (λ p. rw (departed-started rate t starts p left) (and_comm (nat_le p.eligible t) (not (has_started starts p)))))
    ∙ sym (filter-filter (is_eligible_by t) (is_here rate starts t) packets)

-- ---- one tick of service

-- what the starts after tick t show of it: who still occupies the link, who departs, and who is here
pub record ShowsTick (shape : LinkShape) (t : ℕ) (packets here : List Arrival) (on : Option Start) (starts : List Start) : Type 0 where
  pub next_on : start_on shape.rate starts (suc t) ≡ still_on shape.rate t on
  pub departure : sent_at shape (suc t) starts ≡ departs shape t on
  pub best_departure : best_sent_at shape (suc t) starts ≡ best_departs shape t on
  pub next_here : filter (is_here shape.rate starts (suc t)) packets ≡ still_here shape.rate t on here

-- the packet that started last, where those before it have left
newest-here : (rate t : ℕ) (start : Start) (earlier : List Start) (p : Arrival) (by : Bool) → nat_le (leaves_at rate start) (suc t) ≡ by → Each (HasLeft rate t) earlier → is_here rate (start ∷ earlier) (suc t) p ≡ (is_here rate earlier t p && not (is_start_of p start && by))
newest-here rate t start earlier p by same left =
    rw (same, departed-later rate t earlier p left) (not-or (is_start_of p start && by) (has_departed rate earlier t p)) where
      not-or : (a b : Bool) → not (a || b) ≡ (not b && not a)
      not-or true true = refl
      not-or true false = refl
      not-or false true = refl
      not-or false false = refl

-- so far as the newest leaves by the end of the tick, it is no longer here
next-here : (rate t : ℕ) (packets : List Arrival) (start : Start) (earlier : List Start) (by : Bool) → nat_le (leaves_at rate start) (suc t) ≡ by → Each (HasLeft rate t) earlier → filter (is_here rate (start ∷ earlier) (suc t)) packets ≡ cond by (filter (is_other start) (filter (is_here rate earlier t) packets)) (filter (is_here rate earlier t) packets)
next-here rate t packets start earlier true same left =
    filter-same (is_here rate (start ∷ earlier) (suc t)) (λ p. is_here rate earlier t p && is_other start p) packets
    (Each-from _ packets (λ p. newest-here rate t start earlier p true same left ∙ ap (λ b. is_here rate earlier t p && not b) (and-true (is_start_of p start))))
    ∙ sym (filter-filter (is_other start) (is_here rate earlier t) packets)
next-here rate t packets start earlier false same left =
    filter-same (is_here rate (start ∷ earlier) (suc t)) (is_here rate earlier t) packets
    (Each-from _ packets (λ p. newest-here rate t start earlier p false same left ∙ and-false (is_here rate earlier t p) (is_start_of p start))) where
      and-false : (a b : Bool) → (a && not (b && false)) ≡ a
      and-false true true = refl
      and-false true false = refl
      and-false false b = refl

-- a packet on the link, whose start is the newest
shows-on : (shape : LinkShape) (t : ℕ) (packets : List Arrival) (start : Start) (earlier : List Start) → Each (HasLeft shape.rate t) earlier → ShowsTick shape t packets (filter (is_here shape.rate earlier t) packets) (Some start) (start ∷ earlier)
unfolding sent_at best_sent_at
shows-on shape t packets start earlier left = record {
  next_on = still-on (leaves_at shape.rate start) (suc t);
  departure = refl;
  best_departure = refl;
  next_here = next-here shape.rate t packets start earlier (nat_le (leaves_at shape.rate start) (suc t)) refl left;
} where
  still-on : (leaves next : ℕ) → cond (nat_lt next leaves) (Some start) None ≡ cond (nat_le leaves next) None (Some start)
  still-on leaves next =
      ⊎_elim (λ (later : next < leaves). (rw (lt-ltb next leaves later, lt-leb leaves next later) refl))
      (λ (by : leaves ≤ next). (rw (le-ltb next leaves by, le-leb leaves next by) refl))
      (cases_lt next leaves)

-- nobody on the link, where all that have started have left
shows-none : (shape : LinkShape) (t : ℕ) (packets : List Arrival) (starts : List Start) → Each (HasLeft shape.rate t) starts → ShowsTick shape t packets (filter (is_here shape.rate starts t) packets) None starts
unfolding sent_at best_sent_at
shows-none shape t packets starts left = record {
  next_on = idle starts left;
  departure = none starts left;
  best_departure = best-none starts left;
  next_here = filter-same (is_here shape.rate starts (suc t)) (is_here shape.rate starts t) packets (Each-from _ packets (λ p. ap not (departed-later shape.rate t starts p left)));
} where
  idle : (starts : List Start) → Each (HasLeft shape.rate t) starts → start_on shape.rate starts (suc t) ≡ None
  idle [] left = refl
  idle (start ∷ earlier) left = rw (le-ltb (suc t) (leaves_at shape.rate start) (omega (arith, left.0))) refl

  none : (starts : List Start) → Each (HasLeft shape.rate t) starts → sent_at shape (suc t) starts ≡ None
  none [] left = refl
  none (start ∷ earlier) left = rw (ne_eqb (leaves_at shape.rate start) (suc t) (λ same. absurd (omega (arith, left.0, same)))) refl

  best-none : (starts : List Start) → Each (HasLeft shape.rate t) starts → best_sent_at shape (suc t) starts ≡ false
  best-none [] left = refl
  best-none (start ∷ earlier) left = rw (ne_eqb (leaves_at shape.rate start) (suc t) (λ same. absurd (omega (arith, left.0, same)))) refl

-- when no packet occupies the link
idle-on : (rate t : ℕ) (starts : List Start) → is_busy rate starts t ≡ false → start_on rate starts t ≡ None
idle-on rate t [] idle = refl
idle-on rate t (start ∷ earlier) idle = rw idle refl

-- a packet that occupies the link is here
here-busy : (rate t : ℕ) (packets : List Arrival) (start : Start) (earlier : List Start) → t < leaves_at rate start → filter (is_here rate (start ∷ earlier) t) packets ≡ filter (is_here rate earlier t) packets
here-busy rate t packets start earlier later =
    filter-same (is_here rate (start ∷ earlier) t) (is_here rate earlier t) packets
    (Each-from _ packets (λ p. rw (lt-leb (leaves_at rate start) t later) (not-yet (is_start_of p start) (has_departed rate earlier t p)))) where
      not-yet : (a b : Bool) → not ((a && false) || b) ≡ not b
      not-yet true b = refl
      not-yet false b = refl

-- the starts after tick t show what the packets here and the one on the link say
pub shows-tick : (shape : LinkShape) (t : ℕ) (packets : List Arrival) (starts : List Start) → FollowEachOther shape.rate starts → Each (HasBegun t) starts → ShowsTick shape t packets (filter (is_here shape.rate starts t) packets) (served t (filter (is_here shape.rate starts t) packets) (start_on shape.rate starts t)) (serve_tick shape.rate packets t starts)
unfolding serve_tick
shows-tick shape t packets starts follow begun = by-busy starts follow begun (is_busy shape.rate starts t) refl where
  begins : (starts : List Start) → Each (HasLeft shape.rate t) starts → (best : Option Arrival) → ShowsTick shape t packets (filter (is_here shape.rate starts t) packets) (start_at t best) (add_start best t starts)
  begins starts left None = shows-none shape t packets starts left
  begins starts left (Some p) = shows-on shape t packets (record { packet = p; tick = t }) starts left

  by-busy : (starts : List Start) → FollowEachOther shape.rate starts → Each (HasBegun t) starts → (busy : Bool) → is_busy shape.rate starts t ≡ busy → ShowsTick shape t packets (filter (is_here shape.rate starts t) packets) (served t (filter (is_here shape.rate starts t) packets) (start_on shape.rate starts t)) (cond busy starts (add_start (first_in_line (filter (is_waiting starts t) packets)) t starts))
  by-busy [] follow begun true same = cc
  by-busy (start ∷ earlier) follow begun true same =
      let later : t < leaves_at shape.rate start = ltb-true t (leaves_at shape.rate start) same in
      rw (same, here-busy shape.rate t packets start earlier later)
      (shows-on shape t packets start earlier (Each-if (HasLeft shape.rate start.tick) (HasLeft shape.rate t) earlier (λ other left. omega (arith, begun.0)) follow.0))
  by-busy starts follow begun false same =
      let left = left-idle shape.rate t starts follow same in
      rw (idle-on shape.rate t starts same, waits-here shape.rate t starts packets left) (begins starts left (first_in_line (filter (is_eligible_by t) (filter (is_here shape.rate starts t) packets))))

-- ---- packets that are taken at t

-- a packet of an arrival number above n, and one of at most n
abbrev pub IsAbove : ℕ → Arrival → Type 0
IsAbove n p = n < p.place

abbrev pub IsUpTo : ℕ → Arrival → Type 0
IsUpTo n p = p.place ≤ n

-- a packet that came after all that have started hasn't departed
not-departed : (rate t n : ℕ) (starts : List Start) (p : Arrival) → Each (λ start. IsUpTo n start.packet) starts → IsAbove n p → is_here rate starts t p ≡ true
not-departed rate t n [] p upto above = refl
not-departed rate t n (start ∷ earlier) p upto above =
    rw (ne_eqb start.packet.place p.place (λ same. absurd (omega (arith, upto.0, same)))) (not-departed rate t n earlier p upto.1 above)

-- they are here, after those that are
here-append : (rate t n : ℕ) (packets new : List Arrival) → Each (IsUpTo n) packets → Each (IsAbove n) new → filter (is_here rate (starts_below rate packets t) t) (packets ++ new) ≡ here_at rate packets t ++ new
unfolding here_at
here-append rate t n packets new upto above =
    filter-append (is_here rate (starts_below rate packets t) t) packets new
    ∙ ap (λ all. filter (is_here rate (starts_below rate packets t) t) packets ++ all)
    (filter-all (is_here rate (starts_below rate packets t) t) new
    (Each-if (IsAbove n) _ new (λ p higher. not-departed rate t n (starts_below rate packets t) p (starts-fact (IsUpTo n) rate packets t upto) higher) above))

-- and so at clock t, where the new ones are eligible from t on
pub here_at-append : (rate t n : ℕ) (packets new : List Arrival) → Each (IsUpTo n) packets → Each (IsAbove n) new → Each (IsFrom t) new → here_at rate (packets ++ new) t ≡ here_at rate packets t ++ new
here_at-append rate t n packets new upto above later =
    unfold here_at in
    rw (starts_below-append rate packets new t later) (here-append rate t n packets new upto above)

-- tick t over all packets, from those here and the one on the link
pub shows-tick-append : (shape : LinkShape) (t n : ℕ) (packets new : List Arrival) → Each (IsUpTo n) packets → Each (IsAbove n) new → Each (IsFrom t) new → ShowsTick shape t (packets ++ new) (here_at shape.rate packets t ++ new) (served t (here_at shape.rate packets t ++ new) (start_on shape.rate (starts_below shape.rate packets t) t)) (starts_below shape.rate (packets ++ new) (suc t))
unfolding starts_below
shows-tick-append shape t n packets new upto above later =
    let here = here-append shape.rate t n packets new upto above in
    rw (starts_below-append shape.rate packets new t later)
    (rw here at (shows-tick shape t (packets ++ new) (starts_below shape.rate packets t) (starts-follow shape.rate packets t) (starts-begun shape.rate packets t)))

-- ---- the best-effort packets that wait

-- neither started before nor now
one-on : (best one before : Bool) → (best && not (one || before)) ≡ (not before && (best && not one))
one-on true true true = refl
one-on true true false = refl
one-on true false true = refl
one-on true false false = refl
one-on false one true = refl
one-on false one false = refl

-- they are those here but the one on the link
waits-best : (bounds : List ℕ) (rate t : ℕ) (packets : List Arrival) (starts : List Start) → FollowEachOther rate starts → Each (HasBegun t) starts → filter (waits_best bounds starts) packets ≡ filter (waits_here bounds (start_on rate starts t)) (filter (is_here rate starts t) packets)
waits-best bounds rate t packets starts follow begun = by-busy starts follow begun (is_busy rate starts t) refl where
  by-busy : (starts : List Start) → FollowEachOther rate starts → Each (HasBegun t) starts → (busy : Bool) → is_busy rate starts t ≡ busy → filter (waits_best bounds starts) packets ≡ filter (waits_here bounds (start_on rate starts t)) (filter (is_here rate starts t) packets)
  by-busy [] follow begun true same = cc
  by-busy (start ∷ earlier) follow begun true same =
      let later : t < leaves_at rate start = ltb-true t (leaves_at rate start) same in
      let left = Each-if (HasLeft rate start.tick) (HasLeft rate t) earlier (λ other left. omega (arith, begun.0)) follow.0 in
      rw (same, here-busy rate t packets start earlier later)
      (filter-same (waits_best bounds (start ∷ earlier)) (λ p. is_here rate earlier t p && (is_best bounds p && is_other start p)) packets
      (Each-from _ packets (λ p. rw (departed-started rate t earlier p left) (one-on (is_best bounds p) (is_start_of p start) (has_started earlier p))))
      ∙ sym (filter-filter (λ p. is_best bounds p && is_other start p) (is_here rate earlier t) packets))
  by-busy starts follow begun false same =
      let left = left-idle rate t starts follow same in
      rw (idle-on rate t starts same)
      (filter-same (waits_best bounds starts) (λ p. is_here rate starts t p && is_best bounds p) packets
      (Each-from _ packets (λ p. rw (departed-started rate t starts p left) (and_comm (is_best bounds p) (not (has_started starts p)))))
      ∙ sym (filter-filter (is_best bounds) (is_here rate starts t) packets))

-- so many
pub waiting-kept : (bounds : List ℕ) (rate t : ℕ) (packets : List Arrival) → waiting_best bounds (starts_below rate packets t) packets ≡ length (filter (waits_here bounds (start_on rate (starts_below rate packets t) t)) (here_at rate packets t))
unfolding waiting_best here_at
waiting-kept bounds rate t packets = ap length (waits-best bounds rate t packets (starts_below rate packets t) (starts-follow rate packets t) (starts-begun rate packets t))
