-- The row stands where the index leads.
use Rattle.std.proofs.Common.{◌≡◌, None, sym, subst}
use Rattle.link_server.specs.KeyedList.{position}
use Rattle.link_server.proofs.Words.{IfNone, find, is_account_of, TableAccount, row_in, ServedRow}
use Rattle.link_server.specs.Departed.{AreCounted, IsCounted}
use Rattle.link_server.proofs.Departed.Rows.{counted-at}
use Rattle.link_server.proofs.RowsOfTable.Parts.{none-seen, row-seen}
use Rattle.link_server.proofs.table.Table.row_of.Goals as goal

pub returns-in_err-key-clause-none : goal.returns-in_err-key-clause-none
returns-in_err-key-clause-none c = subst (λ found. IfNone found (find (is_account_of c.args.chan) c.args.self.now.rows ≡ None)) (sym c.from_residual.ensures) (none-seen c.self.inside c.args.self.now c.args.chan c.self.view_is c.in_err-key.ensures.none)

pub returns-clause-some : goal.returns-clause-some
returns-clause-some c = row-seen c.self.inside c.args.self.now c.args.chan (position c.self.inside.rows.keys c.in_ok-key.key) c.index.result.now c.self.view_is c.in_ok-key.ensures.some c.index.ensures

pub returns-clause-counted : goal.returns-clause-counted
returns-clause-counted c = λ here each.
    let rows = c.self.inside.rows.items in
    let was = subst (λ (table : TableAccount). AreCounted here table.rows table.departed) (sym c.self.view_is) each in
    subst (λ (row : ServedRow). IsCounted here (row_in row) row.departed) (sym c.index.ensures) (counted-at here rows (position c.self.inside.rows.keys c.in_ok-key.key) c.index.result.now c.in_ok-key.ensures.some.inside was)
