-- The first entry of the wheel's slot is due, and is taken out; where the slot has none, nothing is due.
use Rattle.std.proofs.Common.{◌≡◌, ◌+◌, ◌-◌, suc, length, refl, ap, sym, ◌∙◌, subst, arith}
use Rattle.tick_calendar.specs.Calendar.{TimetableOf}
use Rattle.tick_calendar.specs.Wheel.{entries_in, AreAllFrom}
use Rattle.tick_calendar.proofs.Slots.{slot-empty}
use Rattle.tick_calendar.proofs.TakesWhatIsDue.{all-later, due-none, left-all, none-left, taken-not_ahead, takes-due, removes-one, removes-due, removes-ahead}
use Rattle.tick_calendar.proofs.Calendar.take.Goals as goal

pub returns-in_err-first-clause-key : goal.returns-in_err-first-clause-key
returns-in_err-first-clause-key g c =
    let kept = c.self.invariant.0 in
    let ahead = kept.stands (slot-empty _ _ _ _ _ kept.wheel kept.slot_most (sym c.standing.ensures ∙ c.in_err-first.was) kept.ahead) in
    c.from_residual.ensures ∙ sym (due-none c.args.self.now.clock c.args.self.now.entries (subst (λ (s : TimetableOf _). AreAllFrom (suc s.clock) s.entries) c.self.view_is ahead))

pub returns-in_err-first-clause-left : goal.returns-in_err-first-clause-left
returns-in_err-first-clause-left g c =
    let kept = c.self.invariant.0 in
    let ahead = kept.stands (slot-empty _ _ _ _ _ kept.wheel kept.slot_most (sym c.standing.ensures ∙ c.in_err-first.was) kept.ahead) in
    sym (left-all c.args.self.now.clock c.args.self.now.entries (subst (λ (s : TimetableOf _). AreAllFrom (suc s.clock) s.entries) c.self.view_is ahead))

pub returns-in_err-first-clause-none : goal.returns-in_err-first-clause-none
returns-in_err-first-clause-none g c =
    let kept = c.self.invariant.0 in
    let ahead = kept.stands (slot-empty _ _ _ _ _ kept.wheel kept.slot_most (sym c.standing.ensures ∙ c.in_err-first.was) kept.ahead) in
    (λ _. all-later c.args.self.now.clock c.args.self.now.entries (subst (λ (s : TimetableOf _). AreAllFrom (suc s.clock) s.entries) c.self.view_is ahead), λ _. rw c.from_residual.ensures refl)

pub overflow_sub-self : goal.overflow_sub-self
overflow_sub-self g c = omega (arith, c.self.invariant.0.counted, removes-one (c.self.inside.wheel.base + c.self.inside.wheel.slot) c.take-key.result c.self.inside.wheel.places.items c.take-key.new.self.places.items c.take-key.ensures.entries)

pub invariant_of-self : goal.invariant_of-self
invariant_of-self g c =
    let kept = c.self.invariant.0 in
    let one = removes-one (c.self.inside.wheel.base + c.self.inside.wheel.slot) c.take-key.result c.self.inside.wheel.places.items c.take-key.new.self.places.items c.take-key.ensures.entries in
    let left : length (entries_in c.take-key.new.self.places.items) ≡ c.self.inside.waiting - 1 = omega (arith, kept.counted, one) in
    let none : length (entries_in c.take-key.new.self.places.items) ≡ 0 = left ∙ c.if-self-eq0.true in (
      record {
        wheel = c.take-key.ensures.wheel;
        counted = left;
        within = omega (arith, kept.within);
        roomy = omega (arith, kept.roomy, c.take-key.ensures.capacity);
        slot_most = omega (arith, c.take-key.ensures.slot, kept.slot_most);
        begun = omega (arith, c.take-key.ensures.base, c.take-key.ensures.slot, kept.begun);
        ahead = none-left _ _ none;
        stands = λ _. none-left _ _ none;
      },
      none-left _ _ none,
    )

pub returns-then-self-eq0-clause-key : goal.returns-then-self-eq0-clause-key
returns-then-self-eq0-clause-key g c =
    let kept = c.self.invariant.0 in
    let seen = ap (λ (s : TimetableOf _). s.entries) c.self.view_is in
    let clock = ap (λ (s : TimetableOf _). s.clock) c.self.view_is in
    let due = removes-due (c.self.inside.wheel.base + c.self.inside.wheel.slot) c.args.self.now.clock c.take-key.result c.args.self.now.entries c.self.inside.wheel.places.items c.take-key.new.self.places.items c.take-key.ensures.entries seen kept.ahead (omega (arith, kept.begun, clock)) in
    sym due.0

pub returns-then-self-eq0-clause-left : goal.returns-then-self-eq0-clause-left
returns-then-self-eq0-clause-left g c =
    let kept = c.self.invariant.0 in
    let seen = ap (λ (s : TimetableOf _). s.entries) c.self.view_is in
    let clock = ap (λ (s : TimetableOf _). s.clock) c.self.view_is in
    let due = removes-due (c.self.inside.wheel.base + c.self.inside.wheel.slot) c.args.self.now.clock c.take-key.result c.args.self.now.entries c.self.inside.wheel.places.items c.take-key.new.self.places.items c.take-key.ensures.entries seen kept.ahead (omega (arith, kept.begun, clock)) in
    sym due.1

pub returns-then-self-eq0-clause-spare : goal.returns-then-self-eq0-clause-spare
returns-then-self-eq0-clause-spare g c =
    let spare = ap (λ (s : TimetableOf _). s.spare) c.self.view_is in
    omega (arith, spare, c.self.invariant.0.within, c.self.invariant.0.counted, removes-one (c.self.inside.wheel.base + c.self.inside.wheel.slot) c.take-key.result c.self.inside.wheel.places.items c.take-key.new.self.places.items c.take-key.ensures.entries)

pub returns-then-self-eq0-clause-none : goal.returns-then-self-eq0-clause-none
returns-then-self-eq0-clause-none g c =
    let kept = c.self.invariant.0 in
    let seen = ap (λ (s : TimetableOf _). s.entries) c.self.view_is in
    let clock = ap (λ (s : TimetableOf _). s.clock) c.self.view_is in
    let due = removes-due (c.self.inside.wheel.base + c.self.inside.wheel.slot) c.args.self.now.clock c.take-key.result c.args.self.now.entries c.self.inside.wheel.places.items c.take-key.new.self.places.items c.take-key.ensures.entries seen kept.ahead (omega (arith, kept.begun, clock)) in
    (λ none. absurd (cc (none)), λ ahead. absurd (taken-not_ahead c.args.self.now.entries c.args.self.now.clock c.take-key.result due.0 ahead))

pub returns-then-self-eq0-clause-taken : goal.returns-then-self-eq0-clause-taken
returns-then-self-eq0-clause-taken g c =
    let kept = c.self.invariant.0 in
    let seen = ap (λ (s : TimetableOf _). s.entries) c.self.view_is in
    let clock = ap (λ (s : TimetableOf _). s.clock) c.self.view_is in
    let due = removes-due (c.self.inside.wheel.base + c.self.inside.wheel.slot) c.args.self.now.clock c.take-key.result c.args.self.now.entries c.self.inside.wheel.places.items c.take-key.new.self.places.items c.take-key.ensures.entries seen kept.ahead (omega (arith, kept.begun, clock)) in
    takes-due c.args.self.now.entries (entries_in c.take-key.new.self.places.items) c.args.self.now.clock c.take-key.result due.0 due.1

pub stand-self-inside-requires-clause-ahead : goal.stand-self-inside-requires-clause-ahead
stand-self-inside-requires-clause-ahead g c =
    let begun : c.self.inside.wheel.base + c.self.inside.wheel.slot ≡ c.take-key.new.self.base + c.take-key.new.self.slot = omega (arith, c.take-key.ensures.base, c.take-key.ensures.slot) in
    subst (λ t. AreAllFrom t (entries_in c.take-key.new.self.places.items)) begun (removes-ahead (c.self.inside.wheel.base + c.self.inside.wheel.slot) (c.self.inside.wheel.base + c.self.inside.wheel.slot) c.take-key.result c.self.inside.wheel.places.items c.take-key.new.self.places.items c.take-key.ensures.entries c.self.invariant.0.ahead)

pub invariant_of-self-2 : goal.invariant_of-self-2
invariant_of-self-2 g c =
    let kept = c.self.invariant.0 in
    let one = removes-one (c.self.inside.wheel.base + c.self.inside.wheel.slot) c.take-key.result c.self.inside.wheel.places.items c.take-key.new.self.places.items c.take-key.ensures.entries in
    let left : length (entries_in c.take-key.new.self.places.items) ≡ c.self.inside.waiting - 1 = omega (arith, kept.counted, one) in (
      record {
        wheel = c.stand-self-inside.ensures.wheel;
        counted = ap length c.stand-self-inside.ensures.entries ∙ left;
        within = omega (arith, kept.within);
        roomy = omega (arith, kept.roomy, c.take-key.ensures.capacity, c.stand-self-inside.ensures.capacity);
        slot_most = c.stand-self-inside.ensures.slot;
        begun = c.stand-self-inside.ensures.begun;
        ahead = c.stand-self-inside.ensures.ahead;
        stands = c.stand-self-inside.ensures.stands;
      },
      c.stand-self-inside.ensures.next,
    )

pub returns-clause-key : goal.returns-clause-key
returns-clause-key g c =
    let kept = c.self.invariant.0 in
    let seen = ap (λ (s : TimetableOf _). s.entries) c.self.view_is in
    let clock = ap (λ (s : TimetableOf _). s.clock) c.self.view_is in
    let due = removes-due (c.self.inside.wheel.base + c.self.inside.wheel.slot) c.args.self.now.clock c.take-key.result c.args.self.now.entries c.self.inside.wheel.places.items c.take-key.new.self.places.items c.take-key.ensures.entries seen kept.ahead (omega (arith, kept.begun, clock)) in
    sym due.0

pub returns-clause-left : goal.returns-clause-left
returns-clause-left g c =
    let kept = c.self.invariant.0 in
    let seen = ap (λ (s : TimetableOf _). s.entries) c.self.view_is in
    let clock = ap (λ (s : TimetableOf _). s.clock) c.self.view_is in
    let due = removes-due (c.self.inside.wheel.base + c.self.inside.wheel.slot) c.args.self.now.clock c.take-key.result c.args.self.now.entries c.self.inside.wheel.places.items c.take-key.new.self.places.items c.take-key.ensures.entries seen kept.ahead (omega (arith, kept.begun, clock)) in
    c.stand-self-inside.ensures.entries ∙ sym due.1

pub returns-clause-none : goal.returns-clause-none
returns-clause-none g c =
    let kept = c.self.invariant.0 in
    let seen = ap (λ (s : TimetableOf _). s.entries) c.self.view_is in
    let clock = ap (λ (s : TimetableOf _). s.clock) c.self.view_is in
    let due = removes-due (c.self.inside.wheel.base + c.self.inside.wheel.slot) c.args.self.now.clock c.take-key.result c.args.self.now.entries c.self.inside.wheel.places.items c.take-key.new.self.places.items c.take-key.ensures.entries seen kept.ahead (omega (arith, kept.begun, clock)) in
    (λ none. absurd (cc (none)), λ ahead. absurd (taken-not_ahead c.args.self.now.entries c.args.self.now.clock c.take-key.result due.0 ahead))

pub returns-clause-taken : goal.returns-clause-taken
returns-clause-taken g c =
    let kept = c.self.invariant.0 in
    let seen = ap (λ (s : TimetableOf _). s.entries) c.self.view_is in
    let clock = ap (λ (s : TimetableOf _). s.clock) c.self.view_is in
    let due = removes-due (c.self.inside.wheel.base + c.self.inside.wheel.slot) c.args.self.now.clock c.take-key.result c.args.self.now.entries c.self.inside.wheel.places.items c.take-key.new.self.places.items c.take-key.ensures.entries seen kept.ahead (omega (arith, kept.begun, clock)) in
    takes-due c.args.self.now.entries (entries_in c.stand-self-inside.new.self.places.items) c.args.self.now.clock c.take-key.result due.0 (due.1 ∙ sym c.stand-self-inside.ensures.entries)
