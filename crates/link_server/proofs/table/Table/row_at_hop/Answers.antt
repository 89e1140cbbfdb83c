-- The channel's row is asked for its hop.
use Rattle.std.proofs.Common.{◌≡◌, None, refl, sym, ◌∙◌, subst}
use Rattle.link_server.specs.KeyedList.{position}
use Rattle.link_server.proofs.Words.{IfNone, find, is_account_at_hop, TableAccount}
use Rattle.link_server.specs.Rows.{is_served_at_hop}
use Rattle.link_server.proofs.RowsOfTable.Index.{no-other-hop, no-row-at-hop}
use Rattle.link_server.proofs.RowsOfTable.Places.{kept-absent}
use Rattle.link_server.proofs.RowsOfTable.Parts.{row-seen}
use Rattle.link_server.proofs.table.Table.row_at_hop.Goals as goal

pub returns-in_err-key_of-clause-none : goal.returns-in_err-key_of-clause-none
returns-in_err-key_of-clause-none c =
    let chan = c.args.chan in
    let first = c.args.first in
    subst (λ found. IfNone found (find (is_account_at_hop chan first) c.args.self.now.rows ≡ None)) (sym c.from_residual.ensures)
    (subst (λ (table : TableAccount). find (is_account_at_hop chan first) table.rows ≡ None) c.self.view_is
    (kept-absent (is_served_at_hop chan first) (is_account_at_hop chan first) (λ row. refl) c.self.inside.rows.items (no-row-at-hop chan first c.self.inside.rows.items c.in_err-key_of.ensures.none)))

pub returns-then-is_at_hop-clause-some : goal.returns-then-is_at_hop-clause-some
returns-then-is_at_hop-clause-some c = record {
  found = row-seen c.self.inside c.args.self.now c.args.chan (position c.self.inside.rows.keys c.in_ok-key_of.field-0) c.index-row.result.now c.self.view_is c.in_ok-key_of.ensures.some c.index-row.ensures;
  at_hop = sym c.is_at_hop.ensures ∙ c.if-is_at_hop.true;
}

pub returns-clause-none : goal.returns-clause-none
returns-clause-none c =
    let t = c.self.inside in
    let chan = c.args.chan in
    let first = c.args.first in
    subst (λ (table : TableAccount). find (is_account_at_hop chan first) table.rows ≡ None) c.self.view_is
    (kept-absent (is_served_at_hop chan first) (is_account_at_hop chan first) (λ row. refl) t.rows.items
    (no-other-hop t.index.keys.items t.rows.keys chan first t.rows.items (position c.self.inside.rows.keys c.in_ok-key_of.field-0) c.index-row.result.now c.self.invariant.indexed c.in_ok-key_of.ensures.some c.index-row.ensures (sym c.is_at_hop.ensures ∙ c.if-is_at_hop.false)))
