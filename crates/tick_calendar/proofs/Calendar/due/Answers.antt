-- Where the wheel's slot has an entry, the first is due; where it has none, nothing is.
use Rattle.std.proofs.Common.{◌+◌, suc, refl, sym, ap, ◌∙◌, subst, arith}
use Rattle.std.specs.Prelude.{option_copied}
use Rattle.tick_calendar.specs.Calendar.{TimetableOf}
use Rattle.tick_calendar.specs.Wheel.{AreAllFrom, entries_in}
use Rattle.tick_calendar.proofs.Slots.{slot-empty}
use Rattle.tick_calendar.proofs.TakesWhatIsDue.{all-later, due-none, first-due, none-until, taken-not_ahead}
use Rattle.tick_calendar.proofs.Calendar.due.Goals as goal

pub returns-then-self-clause-key : goal.returns-then-self-clause-key
returns-then-self-clause-key g c =
    let ahead = none-until c.self.inside.clock c.self.inside.next (entries_in c.self.inside.wheel.places.items) c.if-self.true c.self.invariant.1 in
    sym (due-none c.args.self.now.clock c.args.self.now.entries (subst (λ (s : TimetableOf _). AreAllFrom (suc s.clock) s.entries) c.self.view_is ahead))

pub returns-in_err-first-clause-key : goal.returns-in_err-first-clause-key
returns-in_err-first-clause-key g c =
    let kept = c.self.invariant.0 in
    let ahead = kept.stands (slot-empty _ _ _ _ _ kept.wheel kept.slot_most (sym c.standing.ensures ∙ c.in_err-first.was) kept.ahead) in
    ap option_copied c.from_residual.ensures ∙ sym (due-none c.args.self.now.clock c.args.self.now.entries (subst (λ (s : TimetableOf _). AreAllFrom (suc s.clock) s.entries) c.self.view_is ahead))

pub returns-in_err-first-clause-none : goal.returns-in_err-first-clause-none
returns-in_err-first-clause-none g c =
    let kept = c.self.invariant.0 in
    let ahead = kept.stands (slot-empty _ _ _ _ _ kept.wheel kept.slot_most (sym c.standing.ensures ∙ c.in_err-first.was) kept.ahead) in
    (λ _. all-later c.args.self.now.clock c.args.self.now.entries (subst (λ (s : TimetableOf _). AreAllFrom (suc s.clock) s.entries) c.self.view_is ahead), λ _. rw c.from_residual.ensures refl)

pub returns-clause-key : goal.returns-clause-key
returns-clause-key g c =
    let kept = c.self.invariant.0 in
    let entries = ap (λ (s : TimetableOf _). s.entries) c.self.view_is in
    let clock = ap (λ (s : TimetableOf _). s.clock) c.self.view_is in
    sym (first-due (c.self.inside.wheel.base + c.self.inside.wheel.slot) c.args.self.now.clock c.first_key.result.now c.args.self.now.entries c.self.inside.wheel.places.items c.first_key.ensures entries kept.ahead (omega (arith, kept.begun, clock)))

pub returns-clause-none : goal.returns-clause-none
returns-clause-none g c =
    let kept = c.self.invariant.0 in
    let entries = ap (λ (s : TimetableOf _). s.entries) c.self.view_is in
    let clock = ap (λ (s : TimetableOf _). s.clock) c.self.view_is in
    let due = first-due (c.self.inside.wheel.base + c.self.inside.wheel.slot) c.args.self.now.clock c.first_key.result.now c.args.self.now.entries c.self.inside.wheel.places.items c.first_key.ensures entries kept.ahead (omega (arith, kept.begun, clock)) in
    (λ none. absurd (cc (none)), λ ahead. absurd (taken-not_ahead c.args.self.now.entries c.args.self.now.clock c.first_key.result.now due ahead))
