-- The place goes before the others of its tick, or is alone in its slot, or is past the turn.
use Rattle.std.proofs.Common.{◌≡◌, ◌+◌, ◌-◌, ◌<◌, ◌≤◌, ℕ, true, false, None, length, ap, arith, length-set}
use Rattle.std.proofs.lemmas.List.{get_or_read}
use Rattle.std.proofs.lemmas.List.Elements.{All-set}
use Rattle.std.specs.Option.{is_some}
use Rattle.tick_calendar.specs.declared.place.Place.{Place}
use Rattle.tick_calendar.proofs.TurnKeepsWaiting.{link-beyond, link-before, link-alone, entries-linked, read-ahead, read-waits, read-same, some-read}
use Rattle.tick_calendar.proofs.wheel.Wheel.link.Goals as goal

pub overflow_sub-tick : goal.overflow_sub-tick
overflow_sub-tick g c = read-ahead c.args.self.now.places.items c.args.index c.args.self.now.base c.index.result.now c.requires.ahead c.requires.within c.index.ensures

pub overflow_sub-slot : goal.overflow_sub-slot
overflow_sub-slot g c = read-ahead c.args.self.now.places.items c.args.index c.args.self.now.base c.index.result.now c.requires.ahead c.requires.within c.index.ensures

pub index-requires-2 : goal.index-requires-2
index-requires-2 g c = omega (arith, c.if-tick-self-ge1024.false, c.requires.wheel.slots, c.args.self.now.firsts.ok)

pub index_mut-requires-2 : goal.index_mut-requires-2
index_mut-requires-2 g c = omega (arith, c.if-tick-self-ge1024.false, c.requires.wheel.slots, c.args.self.now.firsts.ok)

pub index_mut-requires-3 : goal.index_mut-requires-3
index_mut-requires-3 g c = omega (arith, c.if-tick-self-ge1024.false, c.requires.wheel.ends, c.args.self.now.lasts.ok)

pub returns-then-tick-self-ge1024-clause-wheel : goal.returns-then-tick-self-ge1024-clause-wheel
returns-then-tick-self-ge1024-clause-wheel g c =
    link-beyond c.args.self.now.places.items c.args.self.now.firsts.items c.args.self.now.lasts.items c.args.self.now.base c.args.index c.index.result.now c.requires.wheel c.requires.within c.index.ensures (omega (arith, c.if-tick-self-ge1024.true))

pub returns-then-is_some-clause-wheel : goal.returns-then-is_some-clause-wheel
returns-then-is_some-clause-wheel g c =
    let slot : ℕ = c.index.result.now.tick - c.args.self.now.base in
    let low : slot < 1024 = omega (arith, c.if-tick-self-ge1024.false) in
    let in_slots : slot < length c.args.self.now.firsts.items = omega (arith, c.requires.wheel.slots, low) in
    let ahead : c.args.self.now.base ≤ c.index.result.now.tick = read-ahead c.args.self.now.places.items c.args.index c.args.self.now.base c.index.result.now c.requires.ahead c.requires.within c.index.ensures in
    let same = read-same c.args.self.now.places.items c.args.index c.index.result.now c.index_mut.result.now c.requires.within c.index.ensures c.index_mut.ensures.value in
    let waits = read-waits c.args.self.now.places.items c.args.index c.index_mut.result.now c.requires.waits c.requires.within c.index_mut.ensures.value in
    let tick : c.index_mut.result.now.tick ≡ c.args.self.now.base + slot = omega (arith, ap (λ (p : Place _). p.tick) same, ahead) in
    let next = get_or_read c.args.self.now.firsts.items slot c.index-2.result.now in_slots c.index-2.ensures None in
    let is : is_some c.index-2.result.now ≡ true = cc (c.is_some.ensures, c.if-is_some.true) in
    link-before c.args.self.now.places.items c.args.self.now.firsts.items c.args.self.now.lasts.items c.args.self.now.base c.args.index slot _ c.requires.wheel c.requires.within low waits tick next (some-read c.args.self.now.firsts.items slot c.index-2.result.now in_slots c.index-2.ensures true is)

pub returns-then-is_some-clause-waits : goal.returns-then-is_some-clause-waits
returns-then-is_some-clause-waits g c =
    All-set (λ p. p.waits ≡ true) c.args.self.now.places.items c.args.index _ (read-waits c.args.self.now.places.items c.args.index c.index_mut.result.now c.requires.waits c.requires.within c.index_mut.ensures.value) c.requires.waits

pub returns-then-is_some-clause-ahead : goal.returns-then-is_some-clause-ahead
returns-then-is_some-clause-ahead g c =
    All-set (λ p. c.args.self.now.base ≤ p.tick) c.args.self.now.places.items c.args.index _ (read-ahead c.args.self.now.places.items c.args.index c.args.self.now.base c.index_mut.result.now c.requires.ahead c.requires.within c.index_mut.ensures.value) c.requires.ahead

pub returns-then-is_some-clause-entries : goal.returns-then-is_some-clause-entries
returns-then-is_some-clause-entries g c =
    let same = read-same c.args.self.now.places.items c.args.index c.index.result.now c.index_mut.result.now c.requires.within c.index.ensures c.index_mut.ensures.value in
    entries-linked c.args.self.now.places.items c.args.index c.index.result.now _ c.requires.within c.index.ensures (ap (λ (p : Place _). p.tick) same) (ap (λ (p : Place _). p.key) same) (ap (λ (p : Place _). p.waits) same)

pub returns-then-is_some-clause-len : goal.returns-then-is_some-clause-len
returns-then-is_some-clause-len g c = length-set c.args.self.now.places.items c.args.index _

pub returns-clause-wheel : goal.returns-clause-wheel
returns-clause-wheel g c =
    let slot : ℕ = c.index.result.now.tick - c.args.self.now.base in
    let low : slot < 1024 = omega (arith, c.if-tick-self-ge1024.false) in
    let in_slots : slot < length c.args.self.now.firsts.items = omega (arith, c.requires.wheel.slots, low) in
    let ahead : c.args.self.now.base ≤ c.index.result.now.tick = read-ahead c.args.self.now.places.items c.args.index c.args.self.now.base c.index.result.now c.requires.ahead c.requires.within c.index.ensures in
    let same = read-same c.args.self.now.places.items c.args.index c.index.result.now c.index_mut.result.now c.requires.within c.index.ensures c.index_mut.ensures.value in
    let waits = read-waits c.args.self.now.places.items c.args.index c.index_mut.result.now c.requires.waits c.requires.within c.index_mut.ensures.value in
    let tick : c.index_mut.result.now.tick ≡ c.args.self.now.base + slot = omega (arith, ap (λ (p : Place _). p.tick) same, ahead) in
    let next = get_or_read c.args.self.now.firsts.items slot c.index-2.result.now in_slots c.index-2.ensures None in
    let is : is_some c.index-2.result.now ≡ false = cc (c.is_some.ensures, c.if-is_some.false) in
    link-alone c.args.self.now.places.items c.args.self.now.firsts.items c.args.self.now.lasts.items c.args.self.now.base c.args.index slot _ c.requires.wheel c.requires.within low waits tick next (some-read c.args.self.now.firsts.items slot c.index-2.result.now in_slots c.index-2.ensures false is)

pub returns-clause-waits : goal.returns-clause-waits
returns-clause-waits g c =
    All-set (λ p. p.waits ≡ true) c.args.self.now.places.items c.args.index _ (read-waits c.args.self.now.places.items c.args.index c.index_mut.result.now c.requires.waits c.requires.within c.index_mut.ensures.value) c.requires.waits

pub returns-clause-ahead : goal.returns-clause-ahead
returns-clause-ahead g c =
    All-set (λ p. c.args.self.now.base ≤ p.tick) c.args.self.now.places.items c.args.index _ (read-ahead c.args.self.now.places.items c.args.index c.args.self.now.base c.index_mut.result.now c.requires.ahead c.requires.within c.index_mut.ensures.value) c.requires.ahead

pub returns-clause-entries : goal.returns-clause-entries
returns-clause-entries g c =
    let same = read-same c.args.self.now.places.items c.args.index c.index.result.now c.index_mut.result.now c.requires.within c.index.ensures c.index_mut.ensures.value in
    entries-linked c.args.self.now.places.items c.args.index c.index.result.now _ c.requires.within c.index.ensures (ap (λ (p : Place _). p.tick) same) (ap (λ (p : Place _). p.key) same) (ap (λ (p : Place _). p.waits) same)

pub returns-clause-len : goal.returns-clause-len
returns-clause-len g c = length-set c.args.self.now.places.items c.args.index _
