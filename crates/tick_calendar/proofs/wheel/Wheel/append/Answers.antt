-- The entry is put at the end, and after the last of its tick where there is one.
use Rattle.std.proofs.Common.{◌≡◌, ◌+◌, ◌-◌, ◌<◌, Some, None, get_or, ap, sym, refl, ◌∙◌, arith, ℕ, not, length}
use Rattle.std.proofs.lemmas.List.{get_or_read}
use Rattle.std.proofs.lemmas.Bool.{eq-eqb}
use Rattle.tick_calendar.proofs.Chains.{entries-put}
use Rattle.tick_calendar.proofs.WheelStaysRight.{wheel-beyond, wheel-first, append-after, last-within}
use Rattle.tick_calendar.proofs.wheel.Wheel.append.Goals as goal
use Rattle.tick_calendar.proofs.Slots.{none-of, some-of}

pub returns-then-tick-self-ge1024-clause-wheel : goal.returns-then-tick-self-ge1024-clause-wheel
returns-then-tick-self-ge1024-clause-wheel g c =
    rw c.push_reserved.ensures.items (wheel-beyond _ _ _ _ _ c.requires.wheel (omega (arith, c.if-tick-self-ge1024.true, c.requires.ahead)) refl)

pub returns-then-tick-self-ge1024-clause-entries : goal.returns-then-tick-self-ge1024-clause-entries
returns-then-tick-self-ge1024-clause-entries g c = rw c.push_reserved.ensures.items (entries-put _ _ refl)

pub returns-then-is_none-clause-entries : goal.returns-then-is_none-clause-entries
returns-then-is_none-clause-entries g c = rw c.push_reserved.ensures.items (entries-put _ _ refl)

pub returns-then-is_none-clause-wheel : goal.returns-then-is_none-clause-wheel
returns-then-is_none-clause-wheel g c =
    let w = c.requires.wheel in
    let slot : ℕ = c.args.tick - c.args.self.now.base in
    let low : slot < 1024 = omega (arith, c.if-tick-self-ge1024.false) in
    let back : c.args.tick ≡ c.args.self.now.base + slot = omega (arith, c.requires.ahead) in
    let place : c.len-place.result ≡ length c.args.self.now.places.items = omega (arith, c.len-place.ensures, c.args.self.now.places.ok) in
    let empty : get_or c.args.self.now.firsts.items slot None ≡ None = sym (get_or_read c.args.self.now.firsts.items slot c.index.result.now (omega (arith, w.slots, low)) c.index.ensures None) ∙ none-of c.index.result.now (c.is_none.ensures ∙ ap not c.if-is_none.true) in
    rw (c.push_reserved.ensures.items, place) (wheel-first c.args.self.now.places.items c.args.self.now.firsts.items c.args.self.now.lasts.items c.args.self.now.base slot _ w low empty (eq-eqb c.args.tick (c.args.self.now.base + slot) back) refl)

pub index_mut-requires-2 : goal.index_mut-requires-2
index_mut-requires-2 g c =
    let w = c.requires.wheel in
    let slot : ℕ = c.args.tick - c.args.self.now.base in
    let low : slot < 1024 = omega (arith, c.if-tick-self-ge1024.false) in
    let some = some-of c.index.result.now (c.is_none.ensures ∙ ap not c.if-is_none.false) in
    let first : get_or c.args.self.now.firsts.items slot None ≡ Some some.0 = sym (get_or_read c.args.self.now.firsts.items slot c.index.result.now (omega (arith, w.slots, low)) c.index.ensures None) ∙ some.1 in
    let last = get_or_read c.args.self.now.lasts.items slot c.index-last.result.now (omega (arith, w.ends, low)) c.index-last.ensures 0 in
    let within = last-within c.args.self.now.places.items c.args.self.now.firsts.items c.args.self.now.lasts.items c.args.self.now.base slot some.0 w low first in
    omega (arith, within, last, c.push_reserved.ensures.len, c.args.self.now.places.ok)

pub returns-clause-wheel : goal.returns-clause-wheel
returns-clause-wheel g c =
    let w = c.requires.wheel in
    let slot : ℕ = c.args.tick - c.args.self.now.base in
    let low : slot < 1024 = omega (arith, c.if-tick-self-ge1024.false) in
    let back : c.args.tick ≡ c.args.self.now.base + slot = omega (arith, c.requires.ahead) in
    let place : c.len-place.result ≡ length c.args.self.now.places.items = omega (arith, c.len-place.ensures, c.args.self.now.places.ok) in
    let some = some-of c.index.result.now (c.is_none.ensures ∙ ap not c.if-is_none.false) in
    let first : get_or c.args.self.now.firsts.items slot None ≡ Some some.0 = sym (get_or_read c.args.self.now.firsts.items slot c.index.result.now (omega (arith, w.slots, low)) c.index.ensures None) ∙ some.1 in
    let last = get_or_read c.args.self.now.lasts.items slot c.index-last.result.now (omega (arith, w.ends, low)) c.index-last.ensures 0 in
    (rw (c.push_reserved.ensures.items, place) ((append-after c.args.self.now.places.items c.args.self.now.firsts.items c.args.self.now.lasts.items c.args.self.now.base slot some.0 c.index-last.result.now c.index_mut-2.result.now _ _ w low first last
    (eq-eqb c.args.tick (c.args.self.now.base + slot) back) refl (rw c.push_reserved.ensures.items at c.index_mut-2.ensures.value) refl refl refl refl).0))

pub returns-clause-entries : goal.returns-clause-entries
returns-clause-entries g c =
    let w = c.requires.wheel in
    let slot : ℕ = c.args.tick - c.args.self.now.base in
    let low : slot < 1024 = omega (arith, c.if-tick-self-ge1024.false) in
    let back : c.args.tick ≡ c.args.self.now.base + slot = omega (arith, c.requires.ahead) in
    let place : c.len-place.result ≡ length c.args.self.now.places.items = omega (arith, c.len-place.ensures, c.args.self.now.places.ok) in
    let some = some-of c.index.result.now (c.is_none.ensures ∙ ap not c.if-is_none.false) in
    let first : get_or c.args.self.now.firsts.items slot None ≡ Some some.0 = sym (get_or_read c.args.self.now.firsts.items slot c.index.result.now (omega (arith, w.slots, low)) c.index.ensures None) ∙ some.1 in
    let last = get_or_read c.args.self.now.lasts.items slot c.index-last.result.now (omega (arith, w.ends, low)) c.index-last.ensures 0 in
    (rw (c.push_reserved.ensures.items, place) ((append-after c.args.self.now.places.items c.args.self.now.firsts.items c.args.self.now.lasts.items c.args.self.now.base slot some.0 c.index-last.result.now c.index_mut-2.result.now _ _ w low first last
    (eq-eqb c.args.tick (c.args.self.now.base + slot) back) refl (rw c.push_reserved.ensures.items at c.index_mut-2.ensures.value) refl refl refl refl).1))
