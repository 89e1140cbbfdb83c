-- Before the tick until which the calendar rests, nothing is due; from it on the wheel goes on to what is.
use Rattle.std.proofs.Common.{length, ap, ◌∙◌, arith}
use Rattle.tick_calendar.specs.Calendar.{TimetableOf}
use Rattle.tick_calendar.proofs.TakesWhatIsDue.{rests-kept}
use Rattle.tick_calendar.proofs.Calendar.go_on.Goals as goal

pub invariant_of-self : goal.invariant_of-self
invariant_of-self g c =
    let clock = ap (λ (s : TimetableOf _). s.clock) c.self.view_is in
    (rests-kept _ _ _ _ _ _ _ c.self.inside.clock c.args.now c.self.inside.next _ c.self.invariant.0 (omega (arith, c.requires, clock)) c.if-now-self.true c.self.invariant.1, c.self.invariant.1)

pub skip_to-requires-clause-wheel : goal.skip_to-requires-clause-wheel
skip_to-requires-clause-wheel g c = c.self.invariant.0.wheel

pub skip_to-requires-clause-slot : goal.skip_to-requires-clause-slot
skip_to-requires-clause-slot g c = c.self.invariant.0.slot_most

pub skip_to-requires-clause-ahead : goal.skip_to-requires-clause-ahead
skip_to-requires-clause-ahead g c = c.self.invariant.0.ahead

pub skip_to-requires-clause-from : goal.skip_to-requires-clause-from
skip_to-requires-clause-from g c = c.self.invariant.1

pub stand-self-inside-requires-clause-wheel : goal.stand-self-inside-requires-clause-wheel
stand-self-inside-requires-clause-wheel g c = c.skip_to.ensures.wheel

pub stand-self-inside-requires-clause-slot : goal.stand-self-inside-requires-clause-slot
stand-self-inside-requires-clause-slot g c = c.skip_to.ensures.slot

pub stand-self-inside-requires-clause-begun : goal.stand-self-inside-requires-clause-begun
stand-self-inside-requires-clause-begun g c =
    let clock = ap (λ (s : TimetableOf _). s.clock) c.self.view_is in
    c.skip_to.ensures.begun c.args.now (omega (arith, c.if-now-self.false)) (omega (arith, c.self.invariant.0.begun, c.requires, clock))

pub stand-self-inside-requires-clause-ahead : goal.stand-self-inside-requires-clause-ahead
stand-self-inside-requires-clause-ahead g c = c.skip_to.ensures.ahead

pub invariant_of-self-2 : goal.invariant_of-self-2
invariant_of-self-2 g c = (
  record {
    wheel = c.stand-self-inside.ensures.wheel;
    counted = ap length c.stand-self-inside.ensures.entries ∙ ap length c.skip_to.ensures.entries ∙ c.self.invariant.0.counted;
    within = c.self.invariant.0.within;
    roomy = omega (arith, c.self.invariant.0.roomy, c.stand-self-inside.ensures.capacity, c.skip_to.ensures.capacity);
    slot_most = c.stand-self-inside.ensures.slot;
    begun = c.stand-self-inside.ensures.begun;
    ahead = c.stand-self-inside.ensures.ahead;
    stands = c.stand-self-inside.ensures.stands;
  },
  c.stand-self-inside.ensures.next,
)
