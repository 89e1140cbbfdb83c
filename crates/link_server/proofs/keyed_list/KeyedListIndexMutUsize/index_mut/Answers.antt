-- What is written under the key changes the value at its place and no other.
use Rattle.std.proofs.Common.{◌<◌, Some, IsSome, length, get_or, set, refl, ap, sym, subst, ◌∙◌}
use Rattle.link_server.specs.KeyedList.{AreKeys, items_at, position, slot_at}
use Rattle.link_server.proofs.KeyedValues.{held-at, item-at, items-set, key-inside, keys-set}
use Rattle.link_server.proofs.KeyPlaces.{position-there}
use Rattle.link_server.proofs.keyed_list.KeyedListIndexMutUsize.index_mut.Goals as goal
use Rattle.link_server.proofs.keyed_list.KeyedListIndexMutUsize.index_mut.Goals.{After-index_mut}
use Rattle.link_server.proofs.keyed_list.KeyedListIndexMutUsize.index_mut.Given.{Over}

pub index_mut-requires : goal.index_mut-requires
index_mut-requires g c =
    let slots = c.self.inside.slots.slots in
    let keys = c.self.inside.keys.items in
    let inside = key-inside slots keys c.self.inside.spare c.args.key c.args.self.now c.self.invariant.0 c.self.view_is c.requires in
    subst (λ key. IsSome (slot_at slots key)) (position-there keys c.args.key 0 inside) (held-at slots keys (position keys c.args.key) 0 c.self.invariant.0.held inside)

module _ (g : Over) (c : After-index_mut g) where
  inside : position c.self.inside.keys.items c.args.key < length c.self.inside.keys.items
  inside = key-inside c.self.inside.slots.slots c.self.inside.keys.items c.self.inside.spare c.args.key c.args.self.now c.self.invariant.0 c.self.view_is c.requires

pub invariant_of-self-lent : goal.invariant_of-self-lent
invariant_of-self-lent g c value = (
  subst (λ key. AreKeys (set c.self.inside.slots.slots key (Some value)) c.self.inside.keys.items) (position-there c.self.inside.keys.items c.args.key 0 (inside g c))
      (keys-set c.self.inside.slots.slots c.self.inside.keys.items (position c.self.inside.keys.items c.args.key) 0 value c.self.invariant.0 (inside g c)),
  c.self.invariant.1,
)

pub returns : goal.returns
returns g c =
    let slots = c.self.inside.slots.slots in
    let keys = c.self.inside.keys.items in
    let place = position keys c.args.key in
    let are = c.self.invariant.0 in
    let within = inside g (goal.at.returns g c).After-index_mut in
    let there = position-there keys c.args.key 0 within in
    let at = ap (slot_at slots) there ∙ c.index_mut.ensures.value in (
      (
        refl,
        λ value.
            ap (λ key. record { items = items_at (set slots key (Some value)) keys; keys = keys; spare = c.self.inside.spare }) (sym there)
            ∙ ap (λ items. record { items = items; keys = keys; spare = c.self.inside.spare }) (items-set slots keys place 0 value are.held are.apart within)
            ∙ ap (λ list. record { items = set list.items (position list.keys c.args.key) value; keys = list.keys; spare = list.spare }) c.self.view_is,
      ),
      record {
        writes_back = tt;
        value = item-at slots keys place 0 c.index_mut.result.now c.index_mut.result.now are.held within at ∙ ap (λ list. get_or list.items (position list.keys c.args.key) c.index_mut.result.now) c.self.view_is;
      },
    )
