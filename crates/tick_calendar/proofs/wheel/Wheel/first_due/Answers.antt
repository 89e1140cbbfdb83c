-- The first entry of the turn at hand, or of the next one.
use Rattle.std.proofs.Common.{◌≡◌, ◌+◌, ◌<◌, None, get_or, length, ap, sym, ◌∙◌, subst, arith}
use Rattle.std.proofs.lemmas.Bool.{true≢false}
use Rattle.std.proofs.lemmas.List.{get_or_read}
use Rattle.std.specs.Option.{is_some}
use Rattle.tick_calendar.specs.Wheel.{entries_in, AreAllFrom, IsLeastBy}
use Rattle.tick_calendar.proofs.Slots.{none-in-turn, none-after-turn}
use Rattle.tick_calendar.proofs.wheel.Wheel.first_due.Goals.{then-is_some-via-then-is_some, then-is_some-via-else-is_some+then-now-self-lt1024}
use Rattle.tick_calendar.proofs.wheel.Wheel.first_due.Goals as goal

pub overflow_sub-now : goal.overflow_sub-now
overflow_sub-now g c = omega (arith, c.requires.begun)

pub next_slot-self-requires-clause-wheel : goal.next_slot-self-requires-clause-wheel
next_slot-self-requires-clause-wheel g c = c.requires.wheel

pub next_slot-self-requires-clause-last : goal.next_slot-self-requires-clause-last
next_slot-self-requires-clause-last g c = omega (arith, c.min.ensures)

pub next_slot-self-requires-clause-slot : goal.next_slot-self-requires-clause-slot
next_slot-self-requires-clause-slot g c = omega (arith, c.min.ensures, c.requires.begun, c.requires.slot)

pub next_slot-self-requires-clause-ahead : goal.next_slot-self-requires-clause-ahead
next_slot-self-requires-clause-ahead g c = c.requires.ahead

pub index-requires : goal.index-requires
index-requires g c = omega (arith, c.min.ensures, c.next_slot-self.ensures.within, c.requires.wheel.slots, c.args.self.now.firsts.ok)

pub overflow_sub-now-else-is_some : goal.overflow_sub-now-else-is_some
overflow_sub-now-else-is_some g c = omega (arith, c.requires.begun)

pub returns-then-is_some-clause-wheel : goal.returns-then-is_some-clause-wheel
returns-then-is_some-clause-wheel g c = c.requires.wheel

pub returns-then-is_some-clause-slot : goal.returns-then-is_some-clause-slot
returns-then-is_some-clause-slot g c = omega (arith, c.min.ensures, c.next_slot-self.ensures.within)

pub returns-then-is_some-clause-begun : goal.returns-then-is_some-clause-begun
returns-then-is_some-clause-begun g c = omega (arith, c.min.ensures, c.next_slot-self.ensures.within, c.requires.begun)

pub returns-then-is_some-clause-ahead : goal.returns-then-is_some-clause-ahead
returns-then-is_some-clause-ahead g c = c.next_slot-self.ensures.ahead

pub returns-then-is_some-clause-none : goal.returns-then-is_some-clause-none
returns-then-is_some-clause-none g c = λ none. elim c.then-is_some.branch [
  | then-is_some-via-then-is_some w ↦ absurd (true≢false (sym w.if-is_some.true ∙ c.is_some.ensures ∙ ap is_some none))
  | then-is_some-via-else-is_some+then-now-self-lt1024 w ↦
      let low : c.next_slot-self.result < 1024 = omega (arith, c.min.ensures, c.next_slot-self.ensures.within) in
      let in_slots : c.next_slot-self.result < length c.args.self.now.firsts.items = omega (arith, low, c.requires.wheel.slots) in
      let empty : get_or c.args.self.now.firsts.items c.next_slot-self.result None ≡ None = sym (get_or_read c.args.self.now.firsts.items c.next_slot-self.result c.index.result.now in_slots c.index.ensures None) ∙ none in
      let come : c.args.self.now.base + c.min.result ≡ c.args.now = omega (arith, c.min.ensures, c.requires.begun, w.if-now-self-lt1024.true) in
      none-in-turn c.args.self.now.places.items c.args.self.now.firsts.items c.args.self.now.lasts.items c.args.self.now.base c.next_slot-self.result c.min.result c.args.now
      c.requires.wheel low empty c.next_slot-self.ensures.within c.next_slot-self.ensures.found come c.next_slot-self.ensures.ahead
]

pub returns-then-is_some-clause-found : goal.returns-then-is_some-clause-found
returns-then-is_some-clause-found g c =
    let in_slots : c.next_slot-self.result < length c.args.self.now.firsts.items = omega (arith, c.min.ensures, c.next_slot-self.ensures.within, c.requires.wheel.slots) in
    get_or_read c.args.self.now.firsts.items c.next_slot-self.result c.index.result.now in_slots c.index.ensures None

pub turn-requires-clause-wheel : goal.turn-requires-clause-wheel
turn-requires-clause-wheel g c = c.requires.wheel

pub turn-requires-clause-slot : goal.turn-requires-clause-slot
turn-requires-clause-slot g c = omega (arith, c.min.ensures, c.next_slot-self.ensures.within)

pub turn-requires-clause-past : goal.turn-requires-clause-past
turn-requires-clause-past g c = c.next_slot-self.ensures.ahead

pub turn-requires-clause-ahead : goal.turn-requires-clause-ahead
turn-requires-clause-ahead g c = subst (λ l. AreAllFrom c.least_tick-base.result (entries_in l)) c.deref.ensures.value c.least_tick-base.ensures.all

pub index-requires-2 : goal.index-requires-2
index-requires-2 g c = omega (arith, c.turn.ensures.wheel.slots, c.turn.new.self.firsts.ok)

pub returns-clause-wheel : goal.returns-clause-wheel
returns-clause-wheel g c = c.turn.ensures.wheel

pub returns-clause-slot : goal.returns-clause-slot
returns-clause-slot g c = omega (arith, c.turn.ensures.slot)

pub returns-clause-begun : goal.returns-clause-begun
returns-clause-begun g c = omega (arith, c.turn.ensures.slot, c.turn.ensures.base, c.least_tick-base.ensures.most)

pub returns-clause-ahead : goal.returns-clause-ahead
returns-clause-ahead g c =
    let first : c.least_tick-base.result ≡ c.turn.new.self.base + c.turn.new.self.slot = omega (arith, c.turn.ensures.slot, c.turn.ensures.base) in
    subst (λ t. AreAllFrom t (entries_in c.turn.new.self.places.items)) first
    (subst (AreAllFrom c.least_tick-base.result) (sym c.turn.ensures.entries) (subst (λ l. AreAllFrom c.least_tick-base.result (entries_in l)) c.deref.ensures.value c.least_tick-base.ensures.all))

pub returns-clause-none : goal.returns-clause-none
returns-clause-none g c = λ none.
    let in_slots : 0 < length c.turn.new.self.firsts.items = omega (arith, c.turn.ensures.wheel.slots) in
    let empty : get_or c.turn.new.self.firsts.items 0 None ≡ None = sym (get_or_read c.turn.new.self.firsts.items 0 c.index-2.result.now in_slots c.index-2.ensures None) ∙ none in
    none-after-turn c.turn.new.self.places.items (entries_in c.args.self.now.places.items) c.turn.new.self.firsts.items c.turn.new.self.lasts.items c.turn.new.self.base c.args.now c.least_tick-base.result
    c.turn.ensures.wheel c.turn.ensures.base c.turn.ensures.entries (subst (λ l. IsLeastBy (entries_in l) c.args.now c.least_tick-base.result) c.deref.ensures.value c.least_tick-base.ensures) empty

pub returns-clause-found : goal.returns-clause-found
returns-clause-found g c =
    let in_slots : 0 < length c.turn.new.self.firsts.items = omega (arith, c.turn.ensures.wheel.slots) in
    let first : 0 ≡ c.turn.new.self.slot = omega (arith, c.turn.ensures.slot) in
    get_or_read c.turn.new.self.firsts.items 0 c.index-2.result.now in_slots c.index-2.ensures None ∙ ap (λ s. get_or c.turn.new.self.firsts.items s None) first
