-- The plan of a row rises: no two of its packets are planned for one tick, and they are in order of time. So each tick that
-- is made adds at most itself to what the source has offered, and a submit or a release adds nothing and takes nothing away.
use Rattle.std.proofs.Common.{◌≡◌, ◌≢◌, ℕ, zero, suc, ◌+◌, ◌<◌, ◌≤◌, Bool, true, false, List, [], ◌∷◌, ◌++◌, length, map, Some, None, inl, inr, refl, sym, ap, ◌∙◌, arith, append-nil}
use Rattle.std.proofs.lemmas.Bool.{cases_Bool, cases_lt, eqb-true, eqb-false, lt-ltb, le-ltb, ltb-true, lt-leb, le-leb, cond_both}
use Rattle.std.proofs.lemmas.List.{nil_from_length}
use Rattle.std.proofs.lemmas.Option.{none-some}
use Rattle.std.proofs.lemmas.List.Elements.{filter-append}
use Rattle.std.specs.Prelude.{filter, find}
use Rattle.link_steps.specs.Lists.{Each}
use Rattle.link_steps.specs.Rows.{SourcePacket, planned_from, is_for, is_before, left_at, made_by, tick_of}
use Rattle.link_steps.proofs.FoundElements.{Each-passes}
use Rattle.link_steps.proofs.RowsInOrder.{IsMade, find-for}
use Rattle.link_steps.proofs.SearchAndFilter.{Each-append, Each-filter, Each-find, Each-if, filter-all, filter-none, filter-same}

-- a packet is planned for a later tick
abbrev pub IsAfter : ℕ → SourcePacket → Type 0
IsAfter t p = t < p.tick

-- each packet is planned for a later tick than those before it
abbrev pub Rises : List SourcePacket → Type 0
Rises [] = Unit {0}
Rises (p ∷ plan) = Each (IsAfter p.tick) plan × Rises plan

-- as many packets are planned as are counted
pub planned-count : (u gap size count : ℕ) → length (planned_from u gap size count) ≡ count
unfolding planned_from
planned-count u gap size zero = refl
planned-count u gap size (suc count) = ap suc (planned-count (u + gap) gap size count)

-- ---- tests

before-made : (t : ℕ) (p : SourcePacket) → p.tick < t → is_before t p ≡ true
before-made t p made = lt-ltb p.tick t made

before-left : (t : ℕ) (p : SourcePacket) → t ≤ p.tick → is_before t p ≡ false
before-left t p left = le-ltb p.tick t left

-- nothing found: no packet is planned for t
find-none : (t : ℕ) (plan : List SourcePacket) → find (is_for t) plan ≡ None → Each (λ p. p.tick ≢ t) plan
find-none t [] none = tt
find-none t (q ∷ plan) none =
    elim (cases_Bool (is_for t q)) [
      | inl passed ↦ absurd (none-some q (sym (rw passed at none)))
      | inr failed ↦ (eqb-false q.tick t failed, find-none t plan (rw failed at none))
    ]

-- ---- one tick more

-- all that is planned before t was made by t
pub made-all : (t u : ℕ) (plan : List SourcePacket) → t ≤ u → Each (IsMade t) plan → made_by u plan ≡ plan
made-all t u plan later made = filter-all (is_before u) plan (Each-if (IsMade t) (λ p. is_before u p ≡ true) plan (λ p before. before-made u p (omega (arith, before, later))) made)

-- a tick for which nothing is planned
pub made-rests : (t : ℕ) (plan : List SourcePacket) → find (is_for t) plan ≡ None → made_by (suc t) plan ≡ made_by t plan
made-rests t plan none =
    filter-same (is_before (suc t)) (is_before t) plan (Each-if (λ p. p.tick ≢ t) (λ p. is_before (suc t) p ≡ is_before t p) plan (λ p other. same p other) (find-none t plan none)) where
      same : (p : SourcePacket) → p.tick ≢ t → is_before (suc t) p ≡ is_before t p
      same p other =
          elim (cases_lt p.tick t) [
            | inl made ↦ before-made (suc t) p (omega (arith, made)) ∙ sym (before-made t p made)
            | inr left ↦ before-left (suc t) p (omega (arith, left, other)) ∙ sym (before-left t p left)
          ]

none-made : (t : ℕ) (plan : List SourcePacket) → Each (λ p. t ≤ p.tick) plan → made_by t plan ≡ []
none-made t plan left = filter-none (is_before t) plan (Each-if (λ p. t ≤ p.tick) (λ p. is_before t p ≡ false) plan (before-left t) left)

-- a tick for which a packet is planned
pub made-next : (t : ℕ) (plan : List SourcePacket) (p : SourcePacket) → Rises plan → find (is_for t) plan ≡ Some p → map tick_of (made_by (suc t) plan) ≡ map tick_of (made_by t plan) ++ t ∷ []
made-next t [] p rises found = cc
made-next t (q ∷ plan) p rises found =
    elim (cases_Bool (is_for t q)) [
      | inl passed ↦ (let now = eqb-true q.tick t passed in
          let made = none-made t plan (Each-if (IsAfter q.tick) (λ r. t ≤ r.tick) plan (λ r after. omega (arith, after, now)) rises.0) in
          let later = none-made (suc t) plan (Each-if (IsAfter q.tick) (λ r. suc t ≤ r.tick) plan (λ r after. omega (arith, after, now)) rises.0) in
          rw (before-made (suc t) q (omega (arith, now)), before-left t q (omega (arith, now)), made, later) (ap (λ n. n ∷ []) now))
      | inr failed ↦ (let rest : find (is_for t) plan ≡ Some p = rw failed at found in
          let after = Each-find (IsAfter q.tick) (is_for t) plan p rises.0 rest in
          let at = find-for t plan p rest in
          rw (before-made (suc t) q (omega (arith, after, at)), before-made t q (omega (arith, after, at))) (ap (λ ticks. q.tick ∷ ticks) (made-next t plan p rises.1 rest)))
    ]

-- the ticks offered by t are before t
pub made-before : (t : ℕ) (plan : List SourcePacket) → Each (λ u. u < t) (map tick_of (made_by t plan))
made-before t [] = tt
made-before t (q ∷ plan) =
    cond_both (is_before t q) (q ∷ made_by t plan) (made_by t plan) (λ made. Each (λ u. u < t) (map tick_of made))
    (λ passed. (ltb-true q.tick t passed, made-before t plan)) (λ _. made-before t plan)

-- ---- a submit

planned-from : (u gap size count : ℕ) → Each (λ p. u ≤ p.tick) (planned_from u gap size count)
unfolding planned_from
planned-from u gap size zero = tt
planned-from u gap size (suc count) = (omega arith, Each-if (λ p. u + gap ≤ p.tick) (λ p. u ≤ p.tick) (planned_from (u + gap) gap size count) (λ p from. omega (arith, from)) (planned-from (u + gap) gap size count))

rises-planned : (u gap size count : ℕ) → 1 ≤ gap → Rises (planned_from u gap size count)
unfolding planned_from
rises-planned u gap size zero some = tt
rises-planned u gap size (suc count) some =
    (Each-if (λ p. u + gap ≤ p.tick) (IsAfter u) (planned_from (u + gap) gap size count) (λ p from. omega (arith, from, some)) (planned-from (u + gap) gap size count), rises-planned (u + gap) gap size count some)

rises-append : (t : ℕ) (plan more : List SourcePacket) → Each (IsMade t) plan → Each (λ p. t ≤ p.tick) more → Rises plan → Rises more → Rises (plan ++ more)
rises-append t [] more made from rises rising = rising
rises-append t (q ∷ plan) more made from rises rising =
    (Each-append (IsAfter q.tick) plan more rises.0 (Each-if (λ p. t ≤ p.tick) (IsAfter q.tick) more (λ p later. (let before = made.0 in omega (arith, later, before))) from), rises-append t plan more made.1 from rises.1 rising)

-- where nothing is left, all is made
all-made : (t : ℕ) (plan : List SourcePacket) → left_at t plan ≡ [] → Each (IsMade t) plan
all-made t [] none = tt
all-made t (q ∷ plan) none =
    elim (cases_lt q.tick t) [
      | inl made ↦ (made, all-made t plan (rw (lt-leb t q.tick made) at none))
      | inr left ↦ absurd (some-none (rw (le-leb t q.tick left) at none))
    ] where
      some-none : q ∷ left_at t plan ≡ [] → ⊥
      some-none same = cc

none-left : (t : ℕ) (plan : List SourcePacket) → length (left_at t plan) ≡ 0 → Each (IsMade t) plan
none-left t plan none = all-made t plan (nil_from_length (left_at t plan) none)

-- a submit where nothing is left makes a plan that rises, and offers nothing yet
pub rises-submitted : (t gap size count : ℕ) (plan : List SourcePacket) → 1 ≤ gap → length (left_at t plan) ≡ 0 → Rises plan → Rises (plan ++ planned_from t gap size count)
rises-submitted t gap size count plan some none rises =
    rises-append t plan (planned_from t gap size count) (none-left t plan none) (planned-from t gap size count) rises (rises-planned t gap size count some)

pub made-submitted : (t gap size count : ℕ) (plan : List SourcePacket) → made_by t (plan ++ planned_from t gap size count) ≡ made_by t plan
made-submitted t gap size count plan =
    filter-append (is_before t) plan (planned_from t gap size count)
    ∙ ap (λ more. made_by t plan ++ more) (none-made t (planned_from t gap size count) (planned-from t gap size count))
    ∙ append-nil (made_by t plan)

-- ---- a release

pub rises-filter : (test : SourcePacket → Bool) (plan : List SourcePacket) → Rises plan → Rises (filter test plan)
rises-filter test [] rises = tt
rises-filter test (q ∷ plan) rises =
    cond_both (test q) (q ∷ filter test plan) (filter test plan) Rises
    (λ _. (Each-filter (IsAfter q.tick) test plan rises.0, rises-filter test plan rises.1)) (λ _. rises-filter test plan rises.1)

-- what is made stays so when the rest is cancelled
pub made-closed : (t : ℕ) (plan : List SourcePacket) → made_by t (made_by t plan) ≡ made_by t plan
made-closed t plan = filter-all (is_before t) (made_by t plan) (Each-passes (is_before t) plan)
