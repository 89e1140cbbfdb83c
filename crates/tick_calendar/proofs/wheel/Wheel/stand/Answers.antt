-- Where the slot has an entry, or comes to one, nothing else is due before it; else nothing is due.
use Rattle.std.proofs.Common.{sym, ◌∙◌}
use Rattle.tick_calendar.proofs.Slots.{none-of, some-of}
use Rattle.tick_calendar.proofs.WheelStaysRight.{stands-found}
use Rattle.tick_calendar.proofs.wheel.Wheel.stand.Goals as goal

pub standing-requires-clause-slots : goal.standing-requires-clause-slots
standing-requires-clause-slots g c = c.requires.wheel.slots

pub returns-then-is_some-clause-stands : goal.returns-then-is_some-clause-stands
returns-then-is_some-clause-stands g c =
    let some = some-of c.standing.result (sym c.is_some.ensures ∙ c.if-is_some.true) in
    stands-found c.args.self.now.places.items c.args.self.now.firsts.items c.args.self.now.lasts.items c.args.self.now.base c.args.self.now.slot some.0 c.args.now c.requires.wheel c.requires.slot (sym c.standing.ensures ∙ some.1)

pub returns-then-is_some-2-clause-stands : goal.returns-then-is_some-2-clause-stands
returns-then-is_some-2-clause-stands g c =
    let some = some-of c.first_due.result (sym c.is_some-2.ensures ∙ c.if-is_some-2.true) in
    stands-found c.first_due.new.self.places.items c.first_due.new.self.firsts.items c.first_due.new.self.lasts.items c.first_due.new.self.base c.first_due.new.self.slot some.0 c.args.now c.first_due.ensures.wheel c.first_due.ensures.slot (sym c.first_due.ensures.found ∙ some.1)

pub returns-clause-stands : goal.returns-clause-stands
returns-clause-stands g c = λ _. c.first_due.ensures.none (none-of c.first_due.result (sym c.is_some-2.ensures ∙ c.if-is_some-2.false))
