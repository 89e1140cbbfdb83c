-- Going through the delays: what is known up to one is known up to the next, where the verdict stays the same, and where it changes behind an
-- edge. Once all are gone through, the ranges are all that there are.
use Rattle.std.proofs.Common.{◌≡◌, ℕ, ◌+◌, ◌-◌, ◌<◌, ◌≤◌, ◌⊎◌, inl, inr, Bool, true, false, List, [], ◌∷◌, ◌++◌, refl, sym, ◌∙◌, subst, arith}
use Rattle.std.proofs.lemmas.Bool.{cases_lt}
use Rattle.net_units.specs.Limits.{most_delay}
use Rattle.link_steps.specs.Lists.{Each}
use Rattle.link_steps.proofs.SearchAndFilter.{Each-append, Each-if}
use Rattle.hop_reservation.specs.declared.route.Hop.{Hop}
use Rattle.answer_tables.specs.Ranges.{Accepts, AreApartFrom, AreRangesOf, DelayIs, Denies, HasSeen, IsBoundIn, IsInOne, IsInOneSoFar, IsJudged, IsJudgedSoFar, IsOpen, IsRange, Stands}
use Rattle.answer_tables.specs.declared.ranges.Range.{Range}
use Rattle.answer_tables.specs.declared.ranges.Sweep.{Sweep}

-- ---- one range more

apart-more : (low : ℕ) (ranges : List Range) (range : Range) → AreApartFrom low ranges → low < range.first → Each (λ one. one.last + 1 < range.first) ranges → AreApartFrom low (ranges ++ range ∷ [])
unfolding AreApartFrom
apart-more low [] range apart above each = (above, tt)
apart-more low (first ∷ ranges) range apart above each = (apart.0, apart-more (first.last + 1) ranges range apart.1 each.0 each.1)

in-old : (ranges : List Range) (range : Range) (delay : ℕ) → IsInOne ranges delay → IsInOne (ranges ++ range ∷ []) delay
unfolding IsInOne
in-old [] range delay none = absurd none
in-old (first ∷ ranges) range delay (inl here) = inl here
in-old (first ∷ ranges) range delay (inr later) = inr (in-old ranges range delay later)

in-new : (ranges : List Range) (range : Range) (delay : ℕ) → range.first ≤ delay → delay ≤ range.last → IsInOne (ranges ++ range ∷ []) delay
unfolding IsInOne
in-new [] range delay from to = inl (from, to)
in-new (first ∷ ranges) range delay from to = inr (in-new ranges range delay from to)

-- ---- what a delay is

accepted-one : (gives : ℕ → Bool → Type 0) (delay : ℕ) (accepted : Bool) → accepted ≡ true → DelayIs gives delay accepted → Accepts gives delay
accepted-one gives delay accepted given (inl none) = absurd (let clash : true ≡ false = sym given ∙ none.1 in cc)
accepted-one gives delay accepted given (inr has) = subst (gives delay) given has

denied-one : (gives : ℕ → Bool → Type 0) (delay : ℕ) (accepted : Bool) → accepted ≡ false → DelayIs gives delay accepted → Denies gives delay
denied-one gives delay accepted given (inl none) = inl none.0
denied-one gives delay accepted given (inr has) = inr (subst (gives delay) given has)

-- what holds of the delays up to one, and of the next, holds of all up to that
further : (gives : ℕ → Bool → Type 0) (hops : List Hop) (ranges new : List Range) (sweep next : Sweep)
    → ((bound : ℕ) → IsBoundIn hops bound → sweep.at + 1 < bound → next.at + 1 ≤ bound)
    → ((delay : ℕ) → IsBoundIn hops (delay + 1) → delay ≤ sweep.at → IsJudgedSoFar gives ranges sweep delay)
    → ((delay : ℕ) → delay ≤ sweep.at → IsInOneSoFar ranges sweep delay → IsInOneSoFar new next delay)
    → IsJudgedSoFar gives new next next.at
    → (delay : ℕ) → IsBoundIn hops (delay + 1) → delay ≤ next.at → IsJudgedSoFar gives new next delay
further gives hops ranges new sweep next step judged keeps there delay bound to = by (cases_lt sweep.at delay) where
  kept : delay ≤ sweep.at → IsJudgedSoFar gives ranges sweep delay → IsJudgedSoFar gives new next delay
  kept before (inl accepted) = inl (keeps delay before accepted.0, accepted.1)
  kept before (inr denied) = inr denied

  by : (sweep.at < delay) ⊎ (delay ≤ sweep.at) → IsJudgedSoFar gives new next delay
  by (inl behind) =
      let above : sweep.at + 1 < delay + 1 = omega arith in
      let least : next.at + 1 ≤ delay + 1 = step (delay + 1) bound above in
      let same : next.at ≡ delay = omega arith in
      subst (IsJudgedSoFar gives new next) same there
  by (inr before) = kept before (judged delay bound before)

-- ---- at the beginning

pub none-seen : (gives : ℕ → Bool → Type 0) (hops : List Hop) → HasSeen gives hops [] (record { at = 0; accepted = false; first = 0 })
unfolding AreApartFrom
none-seen gives hops = record {
  most = omega arith;
  is = inl (refl, refl);
  stands = tt;
  are = tt;
  apart = tt;
  judged = λ delay bound to. inr (inl (omega arith));
}

-- ---- the verdict stays the same

pub seen-same : (gives : ℕ → Bool → Type 0) (hops : List Hop) (ranges : List Range) (sweep : Sweep) (at : ℕ) (accepted : Bool) → HasSeen gives hops ranges sweep → sweep.at < at → at ≤ most_delay
    → ((bound : ℕ) → IsBoundIn hops bound → sweep.at + 1 < bound → at + 1 ≤ bound) → accepted ≡ sweep.accepted → gives at accepted
    → HasSeen gives hops ranges (record { at = at; accepted = accepted; first = sweep.first })
seen-same gives hops ranges sweep at true seen more most step same has =
    let opened : IsOpen gives ranges sweep = subst (Stands gives ranges sweep) (sym same) seen.stands in
    let next : Sweep = record { at = at; accepted = true; first = sweep.first } in
    record {
      most = most;
      is = inr has;
      stands = record { rises = omega (arith, opened.rises); some = opened.some; first = opened.first; begins = opened.begins; behind = opened.behind };
      are = seen.are;
      apart = seen.apart;
      judged = further gives hops ranges ranges sweep next step seen.judged (λ delay before one. in-one delay one) (inl (inr (refl, omega (arith, opened.rises)), has));
    } where
      in-one : (delay : ℕ) → IsInOneSoFar ranges sweep delay → IsInOneSoFar ranges (record { at = at; accepted = true; first = sweep.first }) delay
      in-one delay (inl one) = inl one
      in-one delay (inr opened) = inr (refl, opened.1)
seen-same gives hops ranges sweep at false seen more most step same has =
    let ended : Each (λ (one : Range). one.last < sweep.at) ranges = subst (Stands gives ranges sweep) (sym same) seen.stands in
    let next : Sweep = record { at = at; accepted = false; first = sweep.first } in
    record {
      most = most;
      is = inr has;
      stands = Each-if (λ (one : Range). one.last < sweep.at) (λ (one : Range). one.last < at) ranges (λ one before. omega arith) ended;
      are = seen.are;
      apart = seen.apart;
      judged = further gives hops ranges ranges sweep next step seen.judged (λ delay before one. in-one delay one) (inr (inr has));
    } where
      in-one : (delay : ℕ) → IsInOneSoFar ranges sweep delay → IsInOneSoFar ranges (record { at = at; accepted = false; first = sweep.first }) delay
      in-one delay (inl one) = inl one
      in-one delay (inr opened) = absurd (let clash : true ≡ false = sym opened.0 ∙ sym same in cc)

-- ---- a range begins behind an edge

pub seen-opens : (gives : ℕ → Bool → Type 0) (hops : List Hop) (ranges : List Range) (sweep : Sweep) (at edge : ℕ) → HasSeen gives hops ranges sweep → at ≤ most_delay
    → ((bound : ℕ) → IsBoundIn hops bound → sweep.at + 1 < bound → at + 1 ≤ bound) → sweep.accepted ≡ false → gives at true
    → sweep.at ≤ edge → edge < at → DelayIs gives edge false → gives (edge + 1) true
    → HasSeen gives hops ranges (record { at = at; accepted = true; first = edge + 1 })
seen-opens gives hops ranges sweep at edge seen most step was has from below denied accepted =
    let ended : Each (λ (one : Range). one.last < sweep.at) ranges = subst (Stands gives ranges sweep) was seen.stands in
    let next : Sweep = record { at = at; accepted = true; first = edge + 1 } in
    let back : edge ≡ edge + 1 - 1 = omega arith in
    record {
      most = most;
      is = inr has;
      stands = record {
        rises = omega arith;
        some = omega arith;
        first = accepted;
        begins = subst (Denies gives) back (denied-one gives edge false refl denied);
        behind = Each-if (λ (one : Range). one.last < sweep.at) (λ (one : Range). one.last + 1 < edge + 1) ranges (λ one before. omega arith) ended;
      };
      are = seen.are;
      apart = seen.apart;
      judged = further gives hops ranges ranges sweep next step seen.judged (λ delay before one. in-one delay one) (inl (inr (refl, omega arith), has));
    } where
      in-one : (delay : ℕ) → IsInOneSoFar ranges sweep delay → IsInOneSoFar ranges (record { at = at; accepted = true; first = edge + 1 }) delay
      in-one delay (inl one) = inl one
      in-one delay (inr opened) = absurd (let clash : true ≡ false = sym opened.0 ∙ was in cc)

-- ---- a range ends at an edge

pub seen-closes : (gives : ℕ → Bool → Type 0) (hops : List Hop) (ranges : List Range) (sweep : Sweep) (at edge : ℕ) → HasSeen gives hops ranges sweep → at ≤ most_delay
    → ((bound : ℕ) → IsBoundIn hops bound → sweep.at + 1 < bound → at + 1 ≤ bound) → sweep.accepted ≡ true → gives at false
    → sweep.at ≤ edge → edge < at → DelayIs gives edge true → gives (edge + 1) false
    → HasSeen gives hops (ranges ++ record { first = sweep.first; last = edge } ∷ []) (record { at = at; accepted = false; first = 0 })
seen-closes gives hops ranges sweep at edge seen most step was has from below accepted denied =
    let opened : IsOpen gives ranges sweep = subst (Stands gives ranges sweep) was seen.stands in
    let range : Range = record { first = sweep.first; last = edge } in
    let next : Sweep = record { at = at; accepted = false; first = 0 } in
    let rises : sweep.first ≤ sweep.at = opened.rises in
    let ends : IsRange gives range = record {
      rises = omega arith;
      first = opened.first;
      last = accepted-one gives edge true refl accepted;
      begins = opened.begins;
      ends = inr denied;
    } in
    record {
      most = most;
      is = inr has;
      stands = Each-append (λ (one : Range). one.last < at) ranges (range ∷ []) (Each-if (λ (one : Range). one.last + 1 < sweep.first) (λ (one : Range). one.last < at) ranges (λ one before. omega arith) opened.behind) (below, tt);
      are = Each-append (IsRange gives) ranges (range ∷ []) seen.are (ends, tt);
      apart = apart-more 0 ranges range seen.apart opened.some opened.behind;
      judged = further gives hops ranges (ranges ++ range ∷ []) sweep next step seen.judged (λ delay before one. in-one delay before one) (inr (inr has));
    } where
      in-one : (delay : ℕ) → delay ≤ sweep.at → IsInOneSoFar ranges sweep delay → IsInOneSoFar (ranges ++ record { first = sweep.first; last = edge } ∷ []) (record { at = at; accepted = false; first = 0 }) delay
      in-one delay before (inl one) = inl (in-old ranges (record { first = sweep.first; last = edge }) delay one)
      in-one delay before (inr opened) = inl (in-new ranges (record { first = sweep.first; last = edge }) delay opened.1 (omega arith))

-- ---- at the end

pub all-denied-last : (gives : ℕ → Bool → Type 0) (hops : List Hop) (ranges : List Range) (sweep : Sweep) → HasSeen gives hops ranges sweep → most_delay ≤ sweep.at → sweep.accepted ≡ false → AreRangesOf gives hops ranges
all-denied-last gives hops ranges sweep seen over was =
    let most : sweep.at ≤ most_delay = seen.most in
    let at : sweep.at ≡ most_delay = omega arith in
    record {
      are = seen.are;
      apart = seen.apart;
      before_bounds = λ delay bound to. told delay (seen.judged delay bound (subst (λ n. delay ≤ n) (sym at) to));
      longest = inr (subst (Denies gives) at (denied-one gives sweep.at sweep.accepted was seen.is));
    } where
      told : (delay : ℕ) → IsJudgedSoFar gives ranges sweep delay → IsJudged gives ranges delay
      told delay (inl (inl one, accepted)) = inl (one, accepted)
      told delay (inl (inr opened, accepted)) = absurd (let clash : true ≡ false = sym opened.0 ∙ was in cc)
      told delay (inr denied) = inr denied

pub all-accepted-last : (gives : ℕ → Bool → Type 0) (hops : List Hop) (ranges : List Range) (sweep : Sweep) → HasSeen gives hops ranges sweep → most_delay ≤ sweep.at → sweep.accepted ≡ true
    → AreRangesOf gives hops (ranges ++ record { first = sweep.first; last = most_delay } ∷ [])
all-accepted-last gives hops ranges sweep seen over was =
    let most : sweep.at ≤ most_delay = seen.most in
    let at : sweep.at ≡ most_delay = omega arith in
    let opened : IsOpen gives ranges sweep = subst (Stands gives ranges sweep) was seen.stands in
    let range : Range = record { first = sweep.first; last = most_delay } in
    let accepted : Accepts gives most_delay = subst (Accepts gives) at (accepted-one gives sweep.at sweep.accepted was seen.is) in
    let rises : sweep.first ≤ most_delay = subst (λ n. sweep.first ≤ n) at opened.rises in
    let ends : IsRange gives range = record { rises = rises; first = opened.first; last = accepted; begins = opened.begins; ends = inl refl } in
    record {
      are = Each-append (IsRange gives) ranges (range ∷ []) seen.are (ends, tt);
      apart = apart-more 0 ranges range seen.apart opened.some opened.behind;
      before_bounds = λ delay bound to. told delay to (seen.judged delay bound (subst (λ n. delay ≤ n) (sym at) to));
      longest = inl (in-new ranges range most_delay rises (subst (λ n. most_delay ≤ n) refl (omega arith)), accepted);
    } where
      told : (delay : ℕ) → delay ≤ most_delay → IsJudgedSoFar gives ranges sweep delay → IsJudged gives (ranges ++ record { first = sweep.first; last = most_delay } ∷ []) delay
      told delay to (inl (inl one, accepted)) = inl (in-old ranges (record { first = sweep.first; last = most_delay }) delay one, accepted)
      told delay to (inl (inr opened, accepted)) = inl (in-new ranges (record { first = sweep.first; last = most_delay }) delay opened.1 to, accepted)
      told delay to (inr denied) = inr denied
