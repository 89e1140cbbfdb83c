-- The key of the value was vacant, so it is none of the others', and its stamp is above theirs.
use Rattle.std.proofs.Common.{set, ◌≡◌, ◌+◌, ◌-◌, ◌≤◌, ◌<◌, ℕ, [], ◌∷◌, ◌++◌, length, ap, sym, subst, ◌∙◌, arith}
use Rattle.std.proofs.lemmas.List.{length-append, length-set}
use Rattle.link_server.specs.KeyedList.{AreKeys, AreStamps, IsNoneOf, items_at}
use Rattle.link_server.proofs.KeyedValues.{items-came, keys-came, none-yet}
use Rattle.link_server.proofs.KeyPlaces.{stamps-came, stamps-many}
use Rattle.link_server.proofs.keyed_list.KeyedList.push.Goals as goal

pub insert_reserved-key-requires : goal.insert_reserved-key-requires
insert_reserved-key-requires g c =
    let are = c.self.invariant.0 in
    let room = c.self.invariant.1.1.slots_hold in
    let spare = ap (λ list. list.spare) c.self.view_is in
    omega (arith, room, spare, are.whole, c.requires)

pub push_reserved-requires : goal.push_reserved-requires
push_reserved-requires g c =
    let room = c.self.invariant.1.1.keys_hold in
    let spare = ap (λ list. list.spare) c.self.view_is in
    omega (arith, room, spare, c.self.inside.keys.ok, c.requires)

pub push_reserved-requires-2 : goal.push_reserved-requires-2
push_reserved-requires-2 g c =
    let room = c.self.invariant.1.1.stamps_hold in
    let long = stamps-many c.self.inside.keys.items c.self.inside.stamps.items c.self.inside.stamp_under.items c.self.inside.next c.self.invariant.1.0 in
    let spare = ap (λ list. list.spare) c.self.view_is in
    omega (arith, room, long, spare, c.self.inside.stamps.ok, c.requires)

-- the key is one of those that have a stamp
key-inside : (slots under spare key capacity now : ℕ) → (0 < spare → slots ≤ under) → key < capacity → capacity ≡ slots → spare ≡ now → 0 < now → key < under
key-inside slots under spare key capacity now holds below same spares some = (let upto = holds (omega (arith, spares, some)) in omega (arith, upto, below, same))

pub index_mut-requires : goal.index_mut-requires
index_mut-requires g c =
    let put = c.insert_reserved-key.ensures in
    let below = key-inside _ _ _ _ _ _ c.self.invariant.1.1.under_holds put.key_in_range put.capacity (ap (λ list. list.spare) c.self.view_is) c.requires in
    omega (arith, below, c.self.inside.stamp_under.ok)

pub overflow_add-self : goal.overflow_add-self
overflow_add-self g c =
    let left = c.self.invariant.1.1.stamps_left in
    let spare = ap (λ list. list.spare) c.self.view_is in
    omega (arith, left, spare, c.requires)

pub overflow_sub-self : goal.overflow_sub-self
overflow_sub-self g c = (let spare = ap (λ list. list.spare) c.self.view_is in omega (arith, spare, c.requires))

pub invariant_of-self : goal.invariant_of-self
invariant_of-self g c =
    let put = c.insert_reserved-key.ensures in
    let keys = c.self.inside.keys.items in
    let stamps = c.self.inside.stamps.items in
    let key = c.insert_reserved-key.result in
    let next = c.self.inside.next in
    let under = c.self.inside.stamp_under.items in
    let are = keys-came c.self.inside.slots c.insert_reserved-key.new.self key c.args.value keys c.self.invariant.0 put.was_vacant put.updates put.len in
    let none = none-yet c.self.inside.slots c.insert_reserved-key.new.self key c.args.value keys c.self.invariant.0 put.was_vacant put.updates in
    let below = key-inside _ _ _ _ _ _ c.self.invariant.1.1.under_holds put.key_in_range put.capacity (ap (λ list. list.spare) c.self.view_is) c.requires in
    let came = stamps-came keys stamps under next c.self.invariant.1.0 key none below in
    let room = c.self.invariant.1.1 in
    let spare = ap (λ list. list.spare) c.self.view_is in
    let more = ap length c.push_reserved.ensures.items ∙ length-append keys (key ∷ []) in
    let wide = length-set under key next in (
      subst (AreKeys c.insert_reserved-key.new.self.slots) (sym c.push_reserved.ensures.items) are,
      (
        subst (λ ks. AreStamps ks c.push_reserved-2.new.self.items (set under key next) (next + 1)) (sym c.push_reserved.ensures.items)
            (subst (λ ss. AreStamps (keys ++ key ∷ []) ss (set under key next) (next + 1)) (sym c.push_reserved-2.ensures.items) came),
        record {
          stamps_left = (let left = room.stamps_left in omega (arith, left, spare, c.requires));
          slots_hold = (let hold = room.slots_hold in omega (arith, hold, spare, more, put.capacity, c.requires));
          keys_hold = (let hold = room.keys_hold in omega (arith, hold, spare, more, c.push_reserved.ensures.capacity, c.requires));
          stamps_hold = (let hold = room.stamps_hold in omega (arith, hold, spare, more, c.push_reserved-2.ensures.capacity, c.requires));
          under_holds = λ some. (let upto = room.under_holds (omega (arith, spare, c.requires)) in omega (arith, upto, wide, put.capacity));
        },
      ),
    )

pub returns-clause-own : goal.returns-clause-own
returns-clause-own g c =
    let put = c.insert_reserved-key.ensures in
    subst (λ keys. IsNoneOf keys c.insert_reserved-key.result) (ap (λ list. list.keys) c.self.view_is)
    (none-yet c.self.inside.slots c.insert_reserved-key.new.self c.insert_reserved-key.result c.args.value c.self.inside.keys.items c.self.invariant.0 put.was_vacant put.updates)

pub returns-clause-list : goal.returns-clause-list
returns-clause-list g c =
    let put = c.insert_reserved-key.ensures in
    let key = c.insert_reserved-key.result in
    let came = items-came c.self.inside.slots c.insert_reserved-key.new.self key c.args.value c.self.inside.keys.items c.self.invariant.0 put.was_vacant put.updates in
    let items = ap (items_at c.insert_reserved-key.new.self.slots) c.push_reserved.ensures.items ∙ came in
    (λ i. record { items = items i; keys = c.push_reserved.ensures.items i; spare = c.self.inside.spare - 1 })
    ∙ ap (λ list. record { items = list.items ++ c.args.value ∷ []; keys = list.keys ++ key ∷ []; spare = list.spare - 1 }) c.self.view_is
