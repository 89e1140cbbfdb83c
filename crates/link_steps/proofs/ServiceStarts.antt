-- Facts on the service of packets: which starts a tick may add, and which packets are here after it.
use Rattle.std.proofs.Common.{◌≡◌, ℕ, zero, suc, ◌<◌, ◌≤◌, false, List, [], ◌∷◌, ◌++◌, Option, Some, None, refl, ap, ◌∙◌, subst, arith, append-nil}
use Rattle.std.proofs.lemmas.Bool.{lt-leb, ltb-false, cond_both}
use Rattle.std.proofs.lemmas.List.Elements.{filter-append}
use Rattle.std.proofs.lemmas.Option.{same_Some}
use Rattle.std.specs.Prelude.{filter}
use Rattle.link_steps.specs.Lists.{Each}
use Rattle.link_steps.specs.Service.{Arrival, Start, leaves_at, first_in_line, sooner, goes_before, is_waiting, is_busy, add_start, serve_tick, starts_below}
use Rattle.link_steps.proofs.SearchAndFilter.{Each-filter, Each-if, filter-none}

-- ---- packets that are eligible later change nothing

-- a packet is eligible at t or later
abbrev pub IsFrom : ℕ → Arrival → Type 0
IsFrom t p = t ≤ p.eligible

not-waiting : (starts : List Start) (u t : ℕ) → u < t → (p : Arrival) → IsFrom t p → is_waiting starts u p ≡ false
unfolding is_waiting
not-waiting starts u t before p later = rw (lt-leb p.eligible u (omega arith)) refl

starts_below-before : (rate : ℕ) (packets new : List Arrival) (t u : ℕ) → u ≤ t → Each (IsFrom t) new → starts_below rate (packets ++ new) u ≡ starts_below rate packets u
unfolding starts_below serve_tick
starts_below-before rate packets new t zero within later = refl
starts_below-before rate packets new t (suc u) within later =
    let s : List Start = starts_below rate packets u in
    let e : filter (is_waiting (starts_below rate packets u) u) (packets ++ new) ≡ filter (is_waiting (starts_below rate packets u) u) packets =
    filter-append _ packets new
    ∙ ap (λ xs. filter (is_waiting (starts_below rate packets u) u) packets ++ xs)
    (filter-none _ new (Each-if (IsFrom t) _ new (not-waiting (starts_below rate packets u) u t (omega arith)) later))
    ∙ append-nil _ in
    rw (starts_below-before rate packets new t u (omega arith) later, e) refl

-- packets that are eligible at t or later change no start below t
pub starts_below-append : (rate : ℕ) (packets new : List Arrival) (t : ℕ) → Each (IsFrom t) new → starts_below rate (packets ++ new) t ≡ starts_below rate packets t
starts_below-append rate packets new t later = starts_below-before rate packets new t t (omega arith) later

-- ---- starts follow one another

-- a start whose packet has left by t
abbrev pub HasLeft : ℕ → ℕ → Start → Type 0
HasLeft rate t start = leaves_at rate start ≤ t

-- newest first, each packet starts when those before it have left
abbrev pub FollowEachOther : ℕ → List Start → Type 0
FollowEachOther rate [] = Unit {0}
FollowEachOther rate (start ∷ earlier) = Each (HasLeft rate start.tick) earlier × FollowEachOther rate earlier

left-later : (rate t u : ℕ) (starts : List Start) → t ≤ u → Each (HasLeft rate t) starts → Each (HasLeft rate u) starts
left-later rate t u starts later = Each-if (HasLeft rate t) (HasLeft rate u) starts (λ start left. omega arith)

-- when no packet occupies the link, all that have started have left
pub left-idle : (rate t : ℕ) (starts : List Start) → FollowEachOther rate starts → is_busy rate starts t ≡ false → Each (HasLeft rate t) starts
left-idle rate t [] follow idle = tt
left-idle rate t (start ∷ earlier) follow idle =
    let newest : leaves_at rate start ≤ t = ltb-false t (leaves_at rate start) idle in
    (newest, left-later rate start.tick t earlier (omega arith) follow.0)

follow-tick : (rate : ℕ) (packets : List Arrival) (t : ℕ) (starts : List Start) → FollowEachOther rate starts → FollowEachOther rate (serve_tick rate packets t starts)
unfolding serve_tick
follow-tick rate packets t starts follow =
    cond_both (is_busy rate starts t) starts (add_start (first_in_line (filter (is_waiting starts t) packets)) t starts) (FollowEachOther rate)
    (λ _. follow) (λ idle. follow-add (first_in_line (filter (is_waiting starts t) packets)) (left-idle rate t starts follow idle)) where
      follow-add : (p : Option Arrival) → Each (HasLeft rate t) starts → FollowEachOther rate (add_start p t starts)
      follow-add None left = follow
      follow-add (Some p) left = (left, follow)

-- so it is for the starts of every list of packets
pub starts-follow : (rate : ℕ) (packets : List Arrival) (t : ℕ) → FollowEachOther rate (starts_below rate packets t)
unfolding starts_below
starts-follow rate packets zero = tt
starts-follow rate packets (suc t) = follow-tick rate packets t (starts_below rate packets t) (starts-follow rate packets t)

-- a start that was made before tick t
abbrev pub HasBegun : ℕ → Start → Type 0
HasBegun t start = start.tick < t

-- the starts below t were made before t
pub starts-begun : (rate : ℕ) (packets : List Arrival) (t : ℕ) → Each (HasBegun t) (starts_below rate packets t)
unfolding starts_below serve_tick
starts-begun rate packets zero = tt
starts-begun rate packets (suc t) =
    let before = Each-if (HasBegun t) (HasBegun (suc t)) (starts_below rate packets t) (λ start h. omega arith) (starts-begun rate packets t) in
    cond_both (is_busy rate (starts_below rate packets t) t) (starts_below rate packets t) (add_start (first_in_line (filter (is_waiting (starts_below rate packets t) t) packets)) t (starts_below rate packets t)) (Each (HasBegun (suc t)))
    (λ _. before) (λ _. add-begun (first_in_line (filter (is_waiting (starts_below rate packets t) t) packets)) (starts_below rate packets t) before) where
      add-begun : (best : Option Arrival) (starts : List Start) → Each (HasBegun (suc t)) starts → Each (HasBegun (suc t)) (add_start best t starts)
      add-begun None starts before = before
      add-begun (Some p) starts before = (omega arith, before)

-- ---- what starts is one of the packets

-- a fact of each packet is one of the first in line
pub first_in_line-fact : (P : Arrival → Type 0) (ps : List Arrival) (p : Arrival) → Each P ps → first_in_line ps ≡ Some p → P p
unfolding first_in_line
first_in_line-fact P [] p each found = cc
first_in_line-fact P (q ∷ ps) p each found = subst P (same_Some _ _ found) (sooner-fact q (first_in_line ps) each.0 (λ r first. first_in_line-fact P ps r each.1 first)) where
  sooner-fact : (q : Arrival) (best : Option Arrival) → P q → ((r : Arrival) → best ≡ Some r → P r) → P (sooner q best)
  sooner-fact q None here best = here
  sooner-fact q (Some r) here best = cond_both (goes_before r q) r q P (λ _. best r refl) (λ _. here)

-- and so of each that has started
pub starts-fact : (P : Arrival → Type 0) (rate : ℕ) (packets : List Arrival) (t : ℕ) → Each P packets → Each (λ start. P start.packet) (starts_below rate packets t)
unfolding starts_below serve_tick
starts-fact P rate packets zero each = tt
starts-fact P rate packets (suc t) each =
    let s : List Start = starts_below rate packets t in
    let before = starts-fact P rate packets t each in
    cond_both (is_busy rate (starts_below rate packets t) t) (starts_below rate packets t) (add_start (first_in_line (filter (is_waiting (starts_below rate packets t) t) packets)) t (starts_below rate packets t)) (Each (λ start. P start.packet))
    (λ _. before)
    (λ _. add-fact (first_in_line (filter (is_waiting (starts_below rate packets t) t) packets)) (starts_below rate packets t)
    (λ p first. first_in_line-fact P (filter (is_waiting (starts_below rate packets t) t) packets) p (Each-filter P _ packets each) first) before) where
      add-fact : (best : Option Arrival) (starts : List Start) → ((p : Arrival) → best ≡ Some p → P p) → Each (λ start. P start.packet) starts → Each (λ start. P start.packet) (add_start best t starts)
      add-fact None starts fact before = before
      add-fact (Some p) starts fact before = (fact p refl, before)
