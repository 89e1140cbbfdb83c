-- Planned packets are as many as their count, and fall one every gap.
use Rattle.std.proofs.Common.{◌≡◌, ℕ, zero, suc, ◌+◌, ◌-◌, ◌<◌, ◌≤◌, ◌++◌, List, [], ◌∷◌, length, Some, None, refl, sym, ap, arith}
use Rattle.std.proofs.lemmas.Bool.{eqb-true, eq-eqb, ne_eqb, lt-leb}
use Rattle.link_server.proofs.Words.{nat_eq, find, Each, busy}
use Rattle.link_steps.specs.declared.replies.Refusal.TheVariants.{Busy}
use Rattle.link_steps.proofs.AccountOfRows.{left_at-planned}
use Rattle.link_steps.proofs.RulesPassed.{unless-none}
use Rattle.link_steps.specs.Rows.{SourcePacket, planned_from, is_for, left_at}
use Rattle.link_server.specs.Planned.{IsPlannedFrom, first_tick, size_of}

-- what is planned after no packets is all that is planned
pub after-none : (left more : List SourcePacket) → length left ≡ 0 → more ≡ left ++ more
after-none [] more none = refl
after-none (p ∷ left) more none = absurd (omega arith)

-- where the rule on a plan that is left is kept, none is left
pub none-left : (left : ℕ) → None ≡ busy left → left ≡ 0
none-left left none = eqb-true left 0 (unless-none (nat_eq left 0) (Busy left) (sym none))

-- packets from a tick u on are for no earlier tick
for-none : (t u gap size count : ℕ) → t < u → find (is_for t) (planned_from u gap size count) ≡ None
unfolding planned_from
for-none t u gap size zero later = refl
for-none t u gap size (suc count) later = rw (ne_eqb u t (λ same. omega (arith, later, same))) (for-none t (u + gap) gap size count (omega (arith, later)))

-- packets ahead of the clock, of which the first isn't for its tick, have none for it, and all are left after it
pub none-due : (t u gap size count : ℕ) → Each (IsPlannedFrom t) (planned_from u gap size count) → (u ≡ t → ⊥) → find (is_for t) (planned_from u gap size count) ≡ None
unfolding planned_from
none-due t u gap size zero ahead other = refl
none-due t u gap size (suc count) ahead other = for-none t u gap size (suc count) (omega (arith, ahead.0, other))

all-after : (t u gap size count : ℕ) → Each (IsPlannedFrom t) (planned_from u gap size count) → (u ≡ t → ⊥) → left_at (t + 1) (planned_from u gap size count) ≡ planned_from u gap size count
unfolding planned_from
all-after t u gap size zero ahead other = refl
all-after t u gap size (suc count) ahead other = left_at-planned (t + 1) u gap size (suc count) (omega (arith, ahead.0, other))

pub none-due-size : (t u gap size count : ℕ) → Each (IsPlannedFrom t) (planned_from u gap size count) → (u ≡ t → ⊥) → None ≡ size_of (find (is_for t) (planned_from u gap size count))
none-due-size t u gap size count ahead other = sym (ap size_of (none-due t u gap size count ahead other))

pub none-due-left : (t u gap size count : ℕ) → Each (IsPlannedFrom t) (planned_from u gap size count) → (u ≡ t → ⊥) → planned_from u gap size count ≡ left_at (t + 1) (planned_from u gap size count)
none-due-left t u gap size count ahead other = sym (all-after t u gap size count ahead other)

-- no packets have none for a tick
pub empty-due : (t u gap size count : ℕ) → count ≡ 0 → find (is_for t) (planned_from u gap size count) ≡ None
unfolding planned_from
empty-due t u gap size zero none = refl
empty-due t u gap size (suc count) none = absurd (omega (arith, none))

pub empty-due-size : (t u gap size count : ℕ) → count ≡ 0 → None ≡ size_of (find (is_for t) (planned_from u gap size count))
unfolding planned_from
empty-due-size t u gap size zero none = refl
empty-due-size t u gap size (suc count) none = absurd (omega (arith, none))

pub empty-due-left : (t u gap size count : ℕ) → count ≡ 0 → planned_from u gap size count ≡ left_at (t + 1) (planned_from u gap size count)
unfolding planned_from
empty-due-left t u gap size zero none = refl
empty-due-left t u gap size (suc count) none = absurd (omega (arith, none))

-- the first is for the tick of the clock, and those after it are left
pub due-size : (t u gap size count : ℕ) → (count ≡ 0 → ⊥) → u ≡ t → Some size ≡ size_of (find (is_for t) (planned_from u gap size count))
unfolding planned_from
due-size t u gap size zero some now = absurd (some refl)
due-size t u gap size (suc count) some now = rw (eq-eqb u t now) refl

pub due-left : (t u gap size count : ℕ) → 1 ≤ gap → (count ≡ 0 → ⊥) → u ≡ t → planned_from (u + gap) gap size (count - 1) ≡ left_at (t + 1) (planned_from u gap size count)
unfolding planned_from
due-left t u gap size zero apart some now = absurd (some refl)
due-left t u gap size (suc count) apart some now =
    let e : suc count - 1 ≡ count = omega arith in
    rw (now, e, lt-leb (t + 1) t (omega arith)) (sym (left_at-planned (t + 1) (t + gap) gap size count (omega (arith, apart))))

-- the first of them is the next one
pub no-first : (u gap size count : ℕ) → count ≡ 0 → None ≡ first_tick (planned_from u gap size count)
unfolding planned_from
no-first u gap size zero none = refl
no-first u gap size (suc count) none = absurd (omega (arith, none))

pub first-is : (u gap size count : ℕ) → (count ≡ 0 → ⊥) → Some u ≡ first_tick (planned_from u gap size count)
unfolding planned_from
first-is u gap size zero some = absurd (some refl)
first-is u gap size (suc count) some = refl
