-- What a list in a slab ends as, once a `&mut` to one of its values has ended.
use Rattle.std.specs.Prelude.{ℕ, slice_set}
use Rattle.std.specs.Borrow.{Fml, RattleType, MutBor, Lends}
use Rattle.link_server.specs.KeyedList.{Listed, position}
use Rattle.link_server.specs.contracts.keyed_list.KeyedList.{the_row}

-- the value under the key is the last one written through r
abbrev pub lends_key : (T : RattleType) → MutBor (Listed T.Denot) → ℕ → MutBor T.Denot → Fml
lends_key T list key r = Lends (the_row T) T list r (λ value. record list.now { items = slice_set list.now.items (position list.now.keys key) value })
