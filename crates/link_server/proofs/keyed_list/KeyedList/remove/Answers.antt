-- The key is free, and no other is touched.
use Rattle.std.proofs.Common.{◌≡◌, ◌<◌, None, IsSome, length, get_or, remove, ap, sym, subst, ◌∙◌, arith}
use Rattle.std.proofs.lemmas.List.Edits.{length-remove}
use Rattle.slab.specs.Slab.{Updates}
use Rattle.link_server.specs.KeyedList.{AreKeys, AreStamps, items_at, position, slot_at}
use Rattle.link_server.proofs.KeyedValues.{held-at, item-at, items-left, key-inside, keys-left}
use Rattle.link_server.proofs.KeyPlaces.{position-there, stamps-left, stamps-many}
use Rattle.link_server.proofs.keyed_list.KeyedList.remove.Goals as goal
use Rattle.link_server.proofs.keyed_list.KeyedList.remove.Goals.{After-place-place, After-remove-3}
use Rattle.link_server.proofs.keyed_list.KeyedList.remove.Given.{Over}

-- the place that is found is the key's
module _ (g : Over) (c : After-place-place g) where
  place-is : c.place-place.result ≡ position c.self.inside.keys.items c.args.key
  place-is = c.place-place.ensures ∙ ap (λ list. position list.keys c.args.key) (sym c.self.view_is)

  inside : c.place-place.result < length c.self.inside.keys.items
  inside =
      subst (λ n. n < length c.self.inside.keys.items) (sym place-is)
      (key-inside c.self.inside.slots.slots c.self.inside.keys.items c.self.inside.spare c.args.key c.args.self.now c.self.invariant.0 c.self.view_is c.requires)

  there : get_or c.self.inside.keys.items c.place-place.result 0 ≡ c.args.key
  there =
      ap (λ n. get_or c.self.inside.keys.items n 0) place-is
      ∙ position-there c.self.inside.keys.items c.args.key 0 (subst (λ n. n < length c.self.inside.keys.items) place-is inside)

pub remove-requires : goal.remove-requires
remove-requires g c = (let within = inside g (goal.at.remove-requires g c).After-place-place in omega (arith, within, c.self.inside.keys.ok))

pub remove-requires-2 : goal.remove-requires-2
remove-requires-2 g c =
    let within = inside g (goal.at.remove-requires-2 g c).After-place-place in
    let long = stamps-many c.self.inside.keys.items c.self.inside.stamps.items c.self.inside.stamp_under.items c.self.inside.next c.self.invariant.1.0 in
    omega (arith, within, long, c.self.inside.stamps.ok)

pub remove-requires-3 : goal.remove-requires-3
remove-requires-3 g c =
    let at = (goal.at.remove-requires-3 g c).After-place-place in
    subst (λ key. IsSome (slot_at c.self.inside.slots.slots key)) (there g at) (held-at c.self.inside.slots.slots c.self.inside.keys.items c.place-place.result 0 c.self.invariant.0.held (inside g at))

updates-at : (g : Over) (c : After-remove-3 g) → get_or c.self.inside.keys.items c.place-place.result 0 ≡ c.args.key → Updates c.self.inside.slots c.remove-3.new.self (get_or c.self.inside.keys.items c.place-place.result 0) None
updates-at g c there = subst (λ key. Updates c.self.inside.slots c.remove-3.new.self key None) (sym there) c.remove-3.ensures.updates

pub invariant_of-self : goal.invariant_of-self
invariant_of-self g c =
    let at = goal.at.invariant_of-self g c in
    let within = inside g at.After-place-place in
    let keys = c.self.inside.keys.items in
    let under = c.self.inside.stamp_under.items in
    let next = c.self.inside.next in
    let place = c.place-place.result in
    let are = keys-left c.self.inside.slots c.remove-3.new.self keys place 0 c.self.invariant.0 within (updates-at g at.After-remove-3 (there g at.After-place-place)) c.remove-3.ensures.len in
    let left = stamps-left keys c.self.inside.stamps.items under next c.self.invariant.1.0 place in
    let room = c.self.invariant.1.1 in
    let fewer = ap length c.remove.ensures.items in
    let less = length-remove keys place within in (
      subst (AreKeys c.remove-3.new.self.slots) (sym c.remove.ensures.items) are,
      (
        subst (λ ks. AreStamps ks c.remove-2.new.self.items under next) (sym c.remove.ensures.items) (subst (λ ss. AreStamps (remove keys place) ss under next) (sym c.remove-2.ensures.items) left),
        record {
          stamps_left = room.stamps_left;
          slots_hold = (let hold = room.slots_hold in omega (arith, hold, fewer, less, c.remove-3.ensures.capacity));
          keys_hold = (let hold = room.keys_hold in omega (arith, hold, fewer, less, c.remove.ensures.capacity));
          stamps_hold = (let hold = room.stamps_hold in omega (arith, hold, fewer, less, c.remove-2.ensures.capacity));
          under_holds = λ some. (let upto = room.under_holds some in omega (arith, upto, c.remove-3.ensures.capacity));
        },
      ),
    )

pub returns-clause-value : goal.returns-clause-value
returns-clause-value g c =
    let at = (goal.at.returns-clause-value g c).After-place-place in
    let slot = ap (slot_at c.self.inside.slots.slots) (there g at) ∙ c.remove-3.ensures.value in
    item-at c.self.inside.slots.slots c.self.inside.keys.items c.place-place.result 0 c.remove-3.result c.remove-3.result c.self.invariant.0.held (inside g at) slot
    ∙ ap (λ n. get_or (items_at c.self.inside.slots.slots c.self.inside.keys.items) n c.remove-3.result) (place-is g at)
    ∙ ap (λ list. get_or list.items (position list.keys c.args.key) c.remove-3.result) c.self.view_is

pub returns-clause-others : goal.returns-clause-others
returns-clause-others g c =
    let at = goal.at.returns-clause-others g c in
    let keys = c.self.inside.keys.items in
    let items = ap (items_at c.remove-3.new.self.slots) c.remove.ensures.items ∙ items-left c.self.inside.slots c.remove-3.new.self keys c.place-place.result 0 c.self.invariant.0 (inside g at.After-place-place) (updates-at g at.After-remove-3 (there g at.After-place-place)) in
    (λ i. record { items = items i; keys = c.remove.ensures.items i; spare = c.self.inside.spare })
    ∙ ap (λ n. record { items = remove (items_at c.self.inside.slots.slots keys) n; keys = remove keys n; spare = c.self.inside.spare }) (place-is g at.After-place-place)
    ∙ ap (λ list. record { items = remove list.items (position list.keys c.args.key); keys = remove list.keys (position list.keys c.args.key); spare = list.spare }) c.self.view_is
