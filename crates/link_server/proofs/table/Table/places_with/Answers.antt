-- The places that are counted are those of the rows.
use Rattle.std.proofs.Common.{map, sym, ap, ◌∙◌, arith}
use Rattle.link_server.proofs.Words.{whole_of, total, slots_of, TableAccount, reservation_in, row_in}
use Rattle.link_server.specs.Sound.{all_places_of}
use Rattle.link_server.proofs.RowsOfTable.Keeping.{keeping-places}
use Rattle.link_server.proofs.RowsOfTable.Parts.{bounds-seen}
use Rattle.link_server.proofs.table.Table.places_with.Goals as goal

pub returns-clause-value : goal.returns-clause-value
returns-clause-value c =
    let t = c.self.inside in
    let places = keeping-places (whole_of t.keeping.budget) t.bounds t.keeping t.rows.items c.self.invariant.parts.keeps in
    let all = ap (λ bounds. total (all_places_of bounds) (map row_in t.rows.items)) (sym c.self.invariant.same_bounds) ∙ ap (λ (table : TableAccount). total (all_places_of table.server.bounds) table.rows) c.self.view_is in
    let own = ap (λ bounds. slots_of bounds (reservation_in c.args.row.now)) (bounds-seen t c.args.self.now c.self.invariant c.self.view_is) in
    omega (arith, places, all, own, c.slots.ensures.value)
