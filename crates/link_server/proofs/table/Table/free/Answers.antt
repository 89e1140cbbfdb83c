-- The free units are those that no row keeps.
use Rattle.std.proofs.Common.{◌-◌, map, sym, ap, ◌∙◌}
use Rattle.link_server.proofs.Words.{whole_of, total, held_units, account_terms, TableAccount, row_in}
use Rattle.link_server.proofs.RowsOfTable.Keeping.{keeping-free}
use Rattle.link_server.proofs.table.Table.free.Goals as goal

pub returns : goal.returns
returns c =
    let t = c.self.inside in
    c.free.ensures.value
    ∙ keeping-free (whole_of t.keeping.budget) t.bounds t.keeping t.rows.items c.self.invariant.parts.keeps
    ∙ ap (λ bounds. whole_of t.keeping.budget - total (held_units bounds) (map account_terms (map row_in t.rows.items))) (sym c.self.invariant.same_bounds)
    ∙ ap (λ (table : TableAccount). table.buffer - total (held_units table.server.bounds) (map account_terms table.rows)) c.self.view_is
