-- As many values as keys.
use Rattle.std.proofs.Common.{arith, ap, length}
use Rattle.link_server.proofs.KeyedValues.{length-items}
use Rattle.link_server.proofs.keyed_list.KeyedList.len.Goals as goal

pub returns : goal.returns
returns g c =
    let keys = c.self.inside.keys in
    let long = length-items c.self.inside.slots.slots keys.items c.self.invariant.0.held in
    let seen = ap (λ list. length list.items) c.self.view_is in
    omega (arith, long, seen, keys.ok.0, c.len.ensures)
