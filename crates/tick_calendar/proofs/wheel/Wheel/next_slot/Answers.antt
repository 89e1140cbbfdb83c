-- An empty slot lies after, and the slot that is answered isn't empty.
use Rattle.std.proofs.Common.{◌≡◌, ◌+◌, ◌<◌, true, length, sym, ◌∙◌, subst, arith}
use Rattle.tick_calendar.specs.Wheel.{entries_in, AreAllFrom}
use Rattle.tick_calendar.proofs.TurnKeepsWaiting.{some-read}
use Rattle.tick_calendar.proofs.Slots.{slot-passed}
use Rattle.tick_calendar.proofs.wheel.Wheel.next_slot.Goals as goal

pub loop-slot-init : goal.loop-slot-init
loop-slot-init g c = c.skip_empty-slot.ensures.ahead

pub index-requires : goal.index-requires
index-requires g c = omega (arith, c.requires.wheel.slots, c.args.self.now.firsts.ok)

pub returns-then-is_some-clause-within : goal.returns-then-is_some-clause-within
returns-then-is_some-clause-within g c = omega arith

pub returns-then-is_some-clause-ahead : goal.returns-then-is_some-clause-ahead
returns-then-is_some-clause-ahead g c = c.loop-slot.invariant

pub returns-then-is_some-clause-found : goal.returns-then-is_some-clause-found
returns-then-is_some-clause-found g c =
    let in_slots : c.loop-slot.slot < length c.args.self.now.firsts.items = omega (arith, c.requires.wheel.slots) in
    λ _. some-read c.args.self.now.firsts.items c.loop-slot.slot c.index.result.now in_slots c.index.ensures true (sym c.is_some.ensures ∙ c.if-is_some.true)

pub loop-slot-preserved : goal.loop-slot-preserved
loop-slot-preserved g c =
    slot-passed c.args.self.now.places.items c.args.self.now.firsts.items c.args.self.now.lasts.items c.args.self.now.base c.loop-slot.slot (c.loop-slot.slot + 1) c.index.result.now c.requires.wheel (omega arith) (omega arith) c.index.ensures (sym c.is_some.ensures ∙ c.if-is_some.false) c.loop-slot.invariant

pub returns-clause-within : goal.returns-clause-within
returns-clause-within g c = omega arith

pub returns-clause-ahead : goal.returns-clause-ahead
returns-clause-ahead g c =
    let done : c.loop-slot.slot ≡ c.args.last = omega (arith, c.loop-slot.auto.slot-end) in
    subst (λ s. AreAllFrom (c.args.self.now.base + s) (entries_in c.args.self.now.places.items)) done c.loop-slot.invariant

pub returns-clause-found : goal.returns-clause-found
returns-clause-found g c = λ below. absurd (omega arith)
