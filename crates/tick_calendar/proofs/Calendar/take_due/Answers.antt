-- Before the tick until which the calendar rests, nothing is due.
use Rattle.std.proofs.Common.{◌≡◌, ◌∙◌, ap, sym, subst, arith}
use Rattle.std.specs.Prelude.{IfNone}
use Rattle.tick_calendar.specs.Calendar.{TimetableOf}
use Rattle.tick_calendar.specs.Wheel.{AreAllFrom}
use Rattle.tick_calendar.proofs.TakesWhatIsDue.{due-none, left-all, none-until, rests-kept}
use Rattle.tick_calendar.proofs.Calendar.take_due.Goals as goal

pub invariant_of-self : goal.invariant_of-self
invariant_of-self g c =
    let clock = ap (λ (s : TimetableOf _). s.clock) c.self.view_is in
    (rests-kept _ _ _ _ _ _ _ c.self.inside.clock c.args.now c.self.inside.next _ c.self.invariant.0 (omega (arith, c.requires, clock)) c.if-now-self.true c.self.invariant.1, c.self.invariant.1)

pub returns-then-now-self-clause-key : goal.returns-then-now-self-clause-key
returns-then-now-self-clause-key g c =
    let seen = ap (λ (s : TimetableOf _). s.entries) c.self.view_is in
    sym (due-none c.args.now c.args.self.now.entries (none-until c.args.now c.self.inside.next c.args.self.now.entries c.if-now-self.true (subst (AreAllFrom c.self.inside.next) seen c.self.invariant.1)))

pub returns-then-now-self-clause-left : goal.returns-then-now-self-clause-left
returns-then-now-self-clause-left g c =
    let seen = ap (λ (s : TimetableOf _). s.entries) c.self.view_is in
    seen ∙ sym (left-all c.args.now c.args.self.now.entries (none-until c.args.now c.self.inside.next c.args.self.now.entries c.if-now-self.true (subst (AreAllFrom c.self.inside.next) seen c.self.invariant.1)))

pub returns-then-now-self-clause-stay : goal.returns-then-now-self-clause-stay
returns-then-now-self-clause-stay g c = ap (λ (s : TimetableOf _). s.entries) c.self.view_is

pub returns-clause-stay : goal.returns-clause-stay
returns-clause-stay g c = subst (λ es. IfNone c.take.result (c.take.new.self.entries ≡ es)) (ap (λ (s : TimetableOf _). s.entries) c.go_on.ensures) c.take.ensures.stay
