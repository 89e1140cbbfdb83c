-- Best-effort packets among those here: they are none of the channels', and those that are here are as many as wait, and
-- at most one more.
use Rattle.std.proofs.Common.{◌≡◌, ℕ, suc, ◌+◌, ◌<◌, ◌≤◌, Bool, true, false, List, [], ◌∷◌, ◌++◌, length, Option, Some, None, inl, inr, refl, ap, ◌∙◌, arith, append-nil, length-append}
use Rattle.std.proofs.lemmas.Bool.{cases_Bool, le-ltb, lt-ltb, ltb-true}
use Rattle.std.proofs.lemmas.List.Elements.{filter-append}
use Rattle.std.specs.Prelude.{filter, find, not, nat_lt}
use Rattle.link_server.proofs.Words.{LinkShape, Each, SourcePacket, is_for, Arrival, Start, SourceStep, Rests, Brings, Drops, source_step}
use Rattle.link_steps.specs.BestEffort.{is_best, best_step, best_packet}
use Rattle.link_steps.specs.Buffer.{has_lead, held_packets}
use Rattle.link_steps.specs.Account.{Account, waits_here, is_other, account_waiting, account_best}
use Rattle.link_steps.proofs.SearchAndFilter.{Each-filter, Each-find, Each-if, filter-all, filter-none, filter-filter}
use Rattle.link_server.specs.Sound.{of_channels, best_count, AreNumberedWithin, IsSoundPacket, HasSize, AreAhead}
use Rattle.link_server.proofs.Sound.Packets.{HasLead, packets-lead, numbered-filter, count-upto}
use Rattle.link_server.proofs.Sound.Rows.{ahead-sizes}
use Rattle.link_server.proofs.Sound.Service.{LeavesOne, one-leaves}

-- all are packets of channels, or best-effort packets
pub both-count : (bounds : List ℕ) (here : List Arrival) → length here ≡ length (of_channels bounds here) + best_count bounds here
unfolding of_channels best_count
both-count bounds [] = refl
both-count bounds (p ∷ here) =
    let rest = both-count bounds here in
    elim (cases_Bool (is_best bounds p)) [
      | inl best ↦ rw best (omega (arith, rest))
      | inr other ↦ rw other (omega (arith, rest))
    ]

-- a packet of a channel
abbrev pub IsChannels : List ℕ → Arrival → Type 0
IsChannels bounds p = p.level ≤ length bounds

channels-test : (bounds : List ℕ) (p : Arrival) → IsChannels bounds p → is_best bounds p ≡ false
channels-test bounds p within = le-ltb (length bounds) p.level within

pub channels-more : (bounds : List ℕ) (here more : List Arrival) → Each (IsChannels bounds) more → of_channels bounds (here ++ more) ≡ of_channels bounds here ++ more
unfolding of_channels
channels-more bounds here more each =
    filter-append (λ p. not (is_best bounds p)) here more
    ∙ ap (λ ps. filter (λ p. not (is_best bounds p)) here ++ ps) (filter-all (λ p. not (is_best bounds p)) more (Each-if (IsChannels bounds) (λ p. not (is_best bounds p) ≡ true) more (λ p within. ap not (channels-test bounds p within)) each))

pub best-more : (bounds : List ℕ) (here more : List Arrival) → Each (IsChannels bounds) more → best_count bounds (here ++ more) ≡ best_count bounds here
unfolding best_count
best-more bounds here more each =
    let none = ap length (filter-none (is_best bounds) more (Each-if (IsChannels bounds) (λ p. is_best bounds p ≡ false) more (channels-test bounds) each)) in
    let both = ap length (filter-append (is_best bounds) here more) ∙ length-append (filter (is_best bounds) here) (filter (is_best bounds) more) in
    omega (arith, none, both)

-- what a test passes of the channels' packets are the channels' packets of those that it passes
pub channels-filter : (bounds : List ℕ) (test : Arrival → Bool) (here : List Arrival) → of_channels bounds (filter test here) ≡ filter test (of_channels bounds here)
unfolding of_channels
channels-filter bounds test [] = refl
channels-filter bounds test (p ∷ here) =
    let rest = channels-filter bounds test here in
    elim (cases_Bool (is_best bounds p)) [
      | inl best ↦ elim (cases_Bool (test p)) [
        | inl passes ↦ rw (best, passes, best) rest
        | inr fails ↦ rw (best, fails) rest
      ]
      | inr other ↦ elim (cases_Bool (test p)) [
        | inl passes ↦ rw (other, passes, other) (ap (λ ps. p ∷ ps) rest)
        | inr fails ↦ rw (other, fails) rest
      ]
    ]

pub best-fewer : (bounds : List ℕ) (test : Arrival → Bool) (here : List Arrival) → best_count bounds (filter test here) ≤ best_count bounds here
unfolding best_count
best-fewer bounds test [] = omega arith
best-fewer bounds test (p ∷ here) =
    let rest = best-fewer bounds test here in
    elim (cases_Bool (is_best bounds p)) [
      | inl best ↦ elim (cases_Bool (test p)) [
        | inl passes ↦ rw (best, passes, best) (omega (arith, rest))
        | inr fails ↦ rw (best, fails) (omega (arith, rest))
      ]
      | inr other ↦ elim (cases_Bool (test p)) [
        | inl passes ↦ rw (other, passes, other) (omega (arith, rest))
        | inr fails ↦ rw (other, fails) (omega (arith, rest))
      ]
    ]

pub channels-lead : (bounds : List ℕ) (here : List Arrival) → Each HasLead here → Each HasLead (of_channels bounds here)
unfolding of_channels
channels-lead bounds here each = Each-filter HasLead (λ p. not (is_best bounds p)) here each

-- no more packets of a lead are among the channels'
pub held-channels : (bounds : List ℕ) (here : List Arrival) (lead : ℕ) → held_packets lead (of_channels bounds here) ≤ held_packets lead here
unfolding held_packets
held-channels bounds here lead =
    let same = ap length (channels-filter bounds (has_lead lead) here) in
    let both = both-count bounds (filter (has_lead lead) here) in
    omega (arith, same, both)

-- those here are as many as wait, and the one that occupies the link
pub waits-count : (bounds : List ℕ) (here : List Arrival) (on : Option Start) (levels taken : ℕ) → AreNumberedWithin 0 here taken → Each (IsSoundPacket levels taken) here → best_count bounds here ≤ suc (length (filter (waits_here bounds on) here))
unfolding best_count
waits-count bounds here None levels taken numbered each = omega arith
waits-count bounds here (Some start) levels taken numbered each =
    let leaves : LeavesOne (filter (is_best bounds) here) (filter (is_other start) (filter (is_best bounds) here)) =
    one-leaves start 0 (filter (is_best bounds) here) taken (numbered-filter (is_best bounds) 0 here taken numbered) (Each-filter HasLead (is_best bounds) here (packets-lead levels taken here each)) in
    let same = ap length (filter-filter (is_other start) (is_best bounds) here) in
    omega (arith, leaves.fewer, leaves.most, same)

-- ---- the best-effort packet of a tick

-- one that joins has a size, and finds a place
abbrev pub IsBestStep : ℕ → ℕ → SourceStep → Type 0
IsBestStep waiting most (Brings size) = (waiting < most) × (1 ≤ size) × (size ≤ 65536)
IsBestStep waiting most Rests = Unit {0}
IsBestStep waiting most Drops = Unit {0}

best_step-is : (waiting most t u : ℕ) (plan : List SourcePacket) → AreAhead u plan → IsBestStep waiting most (best_step waiting most t plan)
unfolding best_step
best_step-is waiting most t u plan ahead = by-found (nat_lt waiting most) refl (find (is_for t) plan) refl where
  by-found : (free : Bool) → nat_lt waiting most ≡ free → (found : Option SourcePacket) → find (is_for t) plan ≡ found → IsBestStep waiting most (source_step free found)
  by-found true free None is = tt
  by-found false free None is = tt
  by-found false free (Some p) is = tt
  by-found true free (Some p) is =
      let size = Each-find HasSize (is_for t) plan p (ahead-sizes u plan ahead) is in
      (ltb-true waiting most free, size.least, size.most)

pub account_best-is : (shape : LinkShape) (k : Account) → AreAhead k.clock k.best_left → IsBestStep (account_waiting shape k) shape.best (account_best shape k)
unfolding account_best
account_best-is shape k ahead = best_step-is (account_waiting shape k) shape.best k.clock k.clock k.best_left ahead

pub best-numbered : (step : SourceStep) (bounds : List ℕ) (n t : ℕ) → AreNumberedWithin n (best_packet step bounds (suc n) t) (n + length (best_packet step bounds (suc n) t))
best-numbered (Brings size) bounds n t = (omega arith, omega arith)
best-numbered Rests bounds n t = omega arith
best-numbered Drops bounds n t = omega arith

pub best-sound : (step : SourceStep) (bounds : List ℕ) (waiting most n more t : ℕ) → IsBestStep waiting most step → n + length (best_packet step bounds (suc n) t) ≤ more → Each (IsSoundPacket (length bounds) more) (best_packet step bounds (suc n) t)
best-sound (Brings size) bounds waiting most n more t is upto = (
  record {
    lead_least = omega arith;
    lead_most = omega (arith, upto);
    size_least = is.1;
    size_most = is.2;
    level_least = omega arith;
    level_most = omega arith;
  },
  tt,
)
best-sound Rests bounds waiting most n more t is upto = tt
best-sound Drops bounds waiting most n more t is upto = tt

-- it is none of a channel's, and one more best-effort packet
pub best-channels : (step : SourceStep) (bounds : List ℕ) (here : List Arrival) (place t : ℕ) → of_channels bounds (here ++ best_packet step bounds place t) ≡ of_channels bounds here
unfolding of_channels
best-channels step bounds here place t = filter-append (λ p. not (is_best bounds p)) here (best_packet step bounds place t) ∙ by-step step where
  by-step : (s : SourceStep) → filter (λ p. not (is_best bounds p)) here ++ filter (λ p. not (is_best bounds p)) (best_packet s bounds place t) ≡ filter (λ p. not (is_best bounds p)) here
  by-step (Brings size) = (let best = lt-ltb (length bounds) (suc (length bounds)) (omega arith) in rw best (append-nil (filter (λ p. not (is_best bounds p)) here)))
  by-step Rests = append-nil (filter (λ p. not (is_best bounds p)) here)
  by-step Drops = append-nil (filter (λ p. not (is_best bounds p)) here)

pub best-upto : (step : SourceStep) (bounds : List ℕ) (here : List Arrival) (place t : ℕ) → best_count bounds (here ++ best_packet step bounds place t) ≤ best_count bounds here + length (best_packet step bounds place t)
unfolding best_count
best-upto step bounds here place t =
    let both = ap length (filter-append (is_best bounds) here (best_packet step bounds place t)) ∙ length-append (filter (is_best bounds) here) (filter (is_best bounds) (best_packet step bounds place t)) in
    omega (arith, both, count-upto (is_best bounds) (best_packet step bounds place t))

-- with it there are no more than may be
pub best-fits : (shape : LinkShape) (k : Account) (place t : ℕ) (step : SourceStep) → IsBestStep (account_waiting shape k) shape.best step → AreNumberedWithin 0 k.here k.taken → Each (IsSoundPacket (length shape.bounds) k.taken) k.here → best_count shape.bounds k.here ≤ suc shape.best → best_count shape.bounds k.here + length (best_packet step shape.bounds place t) ≤ suc shape.best
unfolding account_waiting
best-fits shape k place t (Brings size) is numbered each few = omega (arith, is.0, waits-count shape.bounds k.here k.on (length shape.bounds) k.taken numbered each)
best-fits shape k place t Rests is numbered each few = omega (arith, few)
best-fits shape k place t Drops is numbered each few = omega (arith, few)
