-- The order of the packets in a line: as one comes, goes on to the queue of its level, or is the next to be taken out.
use Rattle.std.proofs.Common.{◌≡◌, ℕ, zero, suc, ◌+◌, ◌-◌, ◌<◌, ◌≤◌, Bool, false, ◌&&◌, ◌||◌, nat_lt, nat_eq, List, [], ◌∷◌, ◌++◌, Some, sym, ◌∙◌, subst, arith, inl, inr}
use Rattle.std.proofs.lemmas.Bool.{cases_lt}
use Rattle.std.proofs.lemmas.Bool.Decides.{nat_tests}
use Rattle.std.proofs.lemmas.List.{append-nil}
use Rattle.std.proofs.lemmas.List.Sorted.{IsPermutation-middle}
use Rattle.std.proofs.lemmas.Option.{same_Some}
use Rattle.link_server.proofs.Words.{IsPermutation, Each, HeldPacket}
use Rattle.link_steps.proofs.SearchAndFilter.{Each-append, Each-if, Each-both}
use Rattle.link_steps.proofs.ListParts.{Each-parts}
use Rattle.link_server.specs.Keys.{AreInOrder}
use Rattle.link_server.specs.Line.{AreAfter, IsAfter, IsBehind, IsNext}
use Rattle.link_server.specs.Queues.{joined, first_of, after_first, pushed}
use Rattle.link_server.specs.Order.{IsAtLevel, IsBy, IsSooner, IsSoonerThanEach, ArrivedBefore, IsNewest, AreByArrival, AreByTick, AreByLevel}
use Rattle.link_server.proofs.Waiting.Queues.{Each-pushed, joined-first}

-- ---- one comes

arrived-last : (later : List HeldPacket) (r : HeldPacket) → AreByArrival later → Each (λ s. s.place < r.place) later → AreByArrival (later ++ r ∷ [])
arrived-last [] r arrived below = (tt, tt)
arrived-last (s ∷ later) r arrived below = (Each-append (ArrivedBefore s) later (r ∷ []) arrived.0 (below.0, tt), arrived-last later r arrived.1 below.1)

pub order-came : (later : List HeldPacket) (queues : List (List HeldPacket)) (until : ℕ) (r : HeldPacket) → AreInOrder later queues until → until ≤ r.eligible → IsNewest (later ++ joined queues) r → AreInOrder (later ++ r ∷ []) queues until
order-came later queues until r order from newest =
    let older = Each-parts (λ s. ArrivedBefore s r) later (joined queues) newest in
    record {
      arrived = arrived-last later r order.arrived older.0;
      levels = order.levels;
      ahead =
          Each-if (λ s. IsSoonerThanEach later s × (IsBy until s × ArrivedBefore s r)) (IsSoonerThanEach (later ++ r ∷ [])) (joined queues)
          (λ s all. Each-append (IsSooner s) later (r ∷ []) all.0 (((let by = all.1.0 in omega (arith, by, from)), (λ _. all.1.1)), tt))
          (Each-both (IsSoonerThanEach later) (λ s. IsBy until s × ArrivedBefore s r) (joined queues) order.ahead (Each-both (IsBy until) (λ s. ArrivedBefore s r) (joined queues) order.by older.1));
      by = order.by;
    }

-- ---- one goes on to the queue of its level

arrived-without : (before after : List HeldPacket) (r : HeldPacket) → AreByArrival (before ++ r ∷ after) → AreByArrival (before ++ after)
arrived-without [] after r arrived = arrived.1
arrived-without (s ∷ before) after r arrived =
    let parts = Each-parts (ArrivedBefore s) before (r ∷ after) arrived.0 in
    (Each-append (ArrivedBefore s) before after parts.0 parts.1.1, arrived-without before after r arrived.1)

arrived-from : (before after : List HeldPacket) (r : HeldPacket) → AreByArrival (before ++ r ∷ after) → Each (ArrivedBefore r) after
arrived-from [] after r arrived = arrived.0
arrived-from (s ∷ before) after r arrived = arrived-from before after r arrived.1

tick-last : (queue : List HeldPacket) (r : HeldPacket) → AreByTick queue → Each (λ s. IsSooner s r) queue → AreByTick (queue ++ r ∷ [])
tick-last [] r by ahead = (tt, tt)
tick-last (s ∷ queue) r by ahead = (Each-append (IsSooner s) queue (r ∷ []) by.0 (ahead.0, tt), tick-last queue r by.1 ahead.1)

levels-pushed : (level : ℕ) (queues : List (List HeldPacket)) (place : ℕ) (r : HeldPacket) → r.level ≡ level + place → AreByLevel level queues → Each (λ s. IsSooner s r) (joined queues) → AreByLevel level (pushed queues place r)
levels-pushed level [] place r at levels ahead = tt
levels-pushed level (queue ∷ queues) zero r at levels ahead =
    let parts = Each-parts (λ s. IsSooner s r) queue (joined queues) ahead in
    (Each-append (IsAtLevel level) queue (r ∷ []) levels.0 (omega (arith, at), tt), tick-last queue r levels.1 parts.0, levels.2)
levels-pushed level (queue ∷ queues) (suc place) r at levels ahead =
    let parts = Each-parts (λ s. IsSooner s r) queue (joined queues) ahead in
    (levels.0, levels.1, levels-pushed (suc level) queues place r (omega (arith, at)) levels.2 parts.1)

-- the first that is due is ahead of those that stay
ahead-of-rest : (before after : List HeldPacket) (r : HeldPacket) → AreByArrival (before ++ r ∷ after) → Each (λ s. r.eligible < s.eligible) before → Each (λ s. r.eligible ≤ s.eligible) after → IsSoonerThanEach (before ++ after) r
ahead-of-rest before after r arrived earliest least =
    Each-append (IsSooner r) before after
    (Each-if (λ s. r.eligible < s.eligible) (IsSooner r) before (λ s later. (omega (arith, later), (λ by. absurd (omega (arith, later, by))))) earliest)
    (Each-if (λ s. (r.eligible ≤ s.eligible) × ArrivedBefore r s) (IsSooner r) after (λ s both. (both.0, (λ by. both.1)))
    (Each-both (λ s. r.eligible ≤ s.eligible) (ArrivedBefore r) after least (arrived-from before after r arrived)))

pub order-moved : (before after : List HeldPacket) (queues : List (List HeldPacket)) (until : ℕ) (r : HeldPacket) → AreInOrder (before ++ r ∷ after) queues until → Each (λ s. r.eligible < s.eligible) before → Each (λ s. r.eligible ≤ s.eligible) after → r.eligible ≤ until
    → AreInOrder (before ++ after) (pushed queues (r.level - 1) r) until
order-moved before after queues until r order earliest least due =
    let least_level = r.has_level in
    record {
      arrived = arrived-without before after r order.arrived;
      levels =
          levels-pushed 1 queues (r.level - 1) r (omega (arith, least_level)) order.levels
          (Each-if (IsSoonerThanEach (before ++ r ∷ after)) (λ s. IsSooner s r) (joined queues) (λ s ahead. (Each-parts (IsSooner s) before (r ∷ after) ahead).1.0) order.ahead);
      ahead =
          Each-pushed (IsSoonerThanEach (before ++ after)) queues (r.level - 1) r (ahead-of-rest before after r order.arrived earliest least)
          (Each-if (IsSoonerThanEach (before ++ r ∷ after)) (IsSoonerThanEach (before ++ after)) (joined queues)
          (λ s ahead. let parts = Each-parts (IsSooner s) before (r ∷ after) ahead in Each-append (IsSooner s) before after parts.0 parts.1.1) order.ahead);
      by = Each-pushed (IsBy until) queues (r.level - 1) r due order.by;
    }

-- ---- one comes that is eligible before all that aren't ready

pub order-ready : (later : List HeldPacket) (queues : List (List HeldPacket)) (until : ℕ) (r : HeldPacket) → AreInOrder later queues until → r.eligible ≡ until → AreAfter until later → IsNewest (later ++ joined queues) r → AreInOrder later (pushed queues (r.level - 1) r) until
order-ready later queues until r order at after newest =
    subst (λ (packets : List HeldPacket). AreInOrder packets (pushed queues (r.level - 1) r) until) (append-nil later)
    (order-moved later [] queues until r (order-came later queues until r order (omega (arith, at)) newest)
    (subst (λ tick. Each (λ s. tick < s.eligible) later) (sym at) after) tt (omega (arith, at)))

-- ---- the first of the queues is taken out

Each-left : (P : HeldPacket → Type 0) (queues : List (List HeldPacket)) → Each P (joined queues) → Each P (joined (after_first queues))
Each-left P [] each = tt
Each-left P ([] ∷ queues) each = Each-left P queues each
Each-left P ((r ∷ queue) ∷ queues) each = each.1

levels-left : (level : ℕ) (queues : List (List HeldPacket)) → AreByLevel level queues → AreByLevel level (after_first queues)
levels-left level [] levels = tt
levels-left level ([] ∷ queues) levels = (tt, tt, levels-left (suc level) queues levels.2)
levels-left level ((r ∷ queue) ∷ queues) levels = (levels.0.1, levels.1.1, levels.2)

pub order-left : (later : List HeldPacket) (queues : List (List HeldPacket)) (until : ℕ) → AreInOrder later queues until → AreInOrder later (after_first queues) until
order-left later queues until order = record {
  arrived = order.arrived;
  levels = levels-left 1 queues order.levels;
  ahead = Each-left (IsSoonerThanEach later) queues order.ahead;
  by = Each-left (IsBy until) queues order.by;
}

-- ---- it is the next

after-test : (l m e f p q : ℕ) → m ≡ l → e ≤ f → (f ≤ e → p < q) → (nat_lt m l || (nat_eq m l && (nat_lt f e || (nat_eq f e && nat_lt q p)))) ≡ false
after-test l m e f p q level tick place =
    elim (cases_lt e f) [
      | inl below ↦ grind (arith, nat_tests)
      | inr upto ↦ (let above = place upto in grind (arith, nat_tests))
    ]

higher-test : (l m : ℕ) (b : Bool) → l < m → (nat_lt m l || (nat_eq m l && b)) ≡ false
higher-test l m b above = grind (arith, nat_tests)

levels-from : (level : ℕ) (queues : List (List HeldPacket)) → AreByLevel level queues → Each (λ s. level ≤ s.level) (joined queues)
levels-from level [] levels = tt
levels-from level (queue ∷ queues) levels =
    Each-append (λ s. level ≤ s.level) queue (joined queues) (Each-if (IsAtLevel level) (λ s. level ≤ s.level) queue (λ s at. omega (arith, at)) levels.0)
    (Each-if (λ s. suc level ≤ s.level) (λ s. level ≤ s.level) (joined queues) (λ s above. omega (arith, above)) (levels-from (suc level) queues levels.2))

head-behind : (level tick : ℕ) (r : HeldPacket) (queue : List HeldPacket) (queues : List (List HeldPacket)) → AreByLevel level ((r ∷ queue) ∷ queues) → Each (IsBehind tick r) (queue ++ joined queues)
head-behind level tick r queue queues levels =
    let own = levels.0.0 in
    Each-append (IsBehind tick r) queue (joined queues)
    (Each-if (λ s. IsAtLevel level s × IsSooner r s) (IsBehind tick r) queue (λ s both by. after-test r.level s.level r.eligible s.eligible r.place s.place (both.0 ∙ sym own) both.1.0 both.1.1)
    (Each-both (IsAtLevel level) (IsSooner r) queue levels.0.1 levels.1.0))
    (Each-if (λ s. suc level ≤ s.level) (IsBehind tick r) (joined queues) (λ s above by. higher-test r.level s.level _ (omega (arith, above, own))) (levels-from (suc level) queues levels.2))

first-behind : (level tick : ℕ) (queues : List (List HeldPacket)) (r : HeldPacket) → first_of queues ≡ Some r → AreByLevel level queues → Each (IsBehind tick r) (joined (after_first queues))
first-behind level tick [] r first levels = absurd (cc)
first-behind level tick ([] ∷ queues) r first levels = first-behind (suc level) tick queues r first levels.2
first-behind level tick ((s ∷ queue) ∷ queues) r first levels =
    subst (λ (q : HeldPacket). Each (IsBehind tick q) (queue ++ joined queues)) (same_Some s r first) (head-behind level tick s queue queues levels)

pub first-next : (tick : ℕ) (later : List HeldPacket) (queues : List (List HeldPacket)) (r : HeldPacket) → AreInOrder later queues tick → AreAfter tick later → first_of queues ≡ Some r → IsNext tick (later ++ joined queues) (later ++ joined (after_first queues)) r
first-next tick later queues r order after first =
    let split = joined-first queues r first in
    record {
      others = subst (λ (packets : List HeldPacket). IsPermutation (later ++ packets) (r ∷ (later ++ joined (after_first queues)))) (sym split) (IsPermutation-middle later r (joined (after_first queues)));
      eligible = (subst (Each (IsBy tick)) split order.by).0;
      after =
          Each-append (IsBehind tick r) later (joined (after_first queues)) (Each-if (IsAfter tick) (IsBehind tick r) later (λ s past by. absurd (omega (arith, past, by))) after)
          (first-behind 1 tick queues r first order.levels);
    }
