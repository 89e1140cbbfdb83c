-- The value under the key stands at its place.
use Rattle.std.proofs.Common.{IsSome, get_or, ap, subst, ◌∙◌}
use Rattle.link_server.specs.KeyedList.{position, slot_at}
use Rattle.link_server.proofs.KeyedValues.{held-at, item-at, key-inside}
use Rattle.link_server.proofs.KeyPlaces.{position-there}
use Rattle.link_server.proofs.keyed_list.KeyedListIndexUsize.index.Goals as goal

pub index-requires : goal.index-requires
index-requires g c =
    let slots = c.self.inside.slots.slots in
    let keys = c.self.inside.keys.items in
    let inside = key-inside slots keys c.self.inside.spare c.args.key c.args.self.now c.self.invariant.0 c.self.view_is c.requires in
    subst (λ key. IsSome (slot_at slots key)) (position-there keys c.args.key 0 inside) (held-at slots keys (position keys c.args.key) 0 c.self.invariant.0.held inside)

pub returns : goal.returns
returns g c =
    let slots = c.self.inside.slots.slots in
    let keys = c.self.inside.keys.items in
    let inside = key-inside slots keys c.self.inside.spare c.args.key c.args.self.now c.self.invariant.0 c.self.view_is c.requires in
    item-at slots keys (position keys c.args.key) 0 c.index.result.now c.index.result.now c.self.invariant.0.held inside (ap (slot_at slots) (position-there keys c.args.key 0 inside) ∙ c.index.ensures)
    ∙ ap (λ list. get_or list.items (position list.keys c.args.key) c.index.result.now) c.self.view_is
