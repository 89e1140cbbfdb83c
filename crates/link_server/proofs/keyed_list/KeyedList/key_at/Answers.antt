-- The key at a place stands there alone.
use Rattle.std.proofs.Common.{length, ap, sym, ◌∙◌, arith}
use Rattle.link_server.specs.KeyedList.{position}
use Rattle.link_server.proofs.KeyedValues.{length-items}
use Rattle.link_server.proofs.KeyPlaces.{position-is}
use Rattle.link_server.proofs.keyed_list.KeyedList.key_at.Goals as goal

pub index-requires : goal.index-requires
index-requires g c =
    let long = length-items c.self.inside.slots.slots c.self.inside.keys.items c.self.invariant.0.held in
    let seen = ap (λ list. length list.items) c.self.view_is in
    omega (arith, long, seen, c.self.inside.keys.ok, c.requires)

pub returns : goal.returns
returns g c =
    let keys = c.self.inside.keys.items in
    let long = length-items c.self.inside.slots.slots keys c.self.invariant.0.held in
    let seen = ap (λ list. length list.items) c.self.view_is in
    sym (ap (λ list. position list.keys c.index.result.now) c.self.view_is) ∙ ap (position keys) c.index.ensures ∙ position-is keys c.args.place c.index.result.now c.self.invariant.0.apart (omega (arith, long, seen, c.requires))
