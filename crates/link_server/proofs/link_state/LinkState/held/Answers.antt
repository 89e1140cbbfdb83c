-- The rows are those of the account.
use Rattle.std.proofs.Common.{◌≡◌, ◌≤◌, None, Some, ap, ◌∙◌, subst}
use Rattle.link_server.specs.Held.{reservations_held, seen, seen_at}
use Rattle.link_server.proofs.Words.{reservation_in, row_in, account_in}
use Rattle.link_server.proofs.ChosenLevel.{seen-stand, seen-row, seen-none}
use Rattle.link_server.proofs.RowsOfTable.Parts.{at-levels}
use Rattle.link_server.proofs.link_state.LinkState.held.Goals as goal
use Rattle.link_server.proofs.link_state.LinkState.held.Goals.{Then-place-len, After-units}

past : (c : Then-place-len) → None ≡ seen_at c.args.self.now.shape.bounds (reservations_held c.args.self.now) c.args.place
past c = seen-none c.args.self.now.shape.bounds c.args.self.now.table.rows c.args.place (subst (λ n. n ≤ c.args.place) c.len.ensures c.if-place-len.true)

pub returns-then-place-len-clause-row : goal.returns-then-place-len-clause-row
returns-then-place-len-clause-row c = past (goal.at.returns-then-place-len-clause-row c).Then-place-len

pub returns-then-place-len-clause-stands : goal.returns-then-place-len-clause-stands
returns-then-place-len-clause-stands c = seen-stand c.args.self.now.shape (account_in c.args.self.now) c.args.place None (past (goal.at.returns-then-place-len-clause-stands c).Then-place-len)

pub units-requires : goal.units-requires
units-requires c = at-levels c.args.self.now c.row-row.result.now c.row-row.ensures.within

here : (c : After-units) → Some (record (seen c.args.self.now.shape.bounds (reservation_in c.row-row.result.now)) { kept = c.units.result }) ≡ seen_at c.args.self.now.shape.bounds (reservations_held c.args.self.now) c.args.place
here c =
    ap (λ units. Some (record (seen c.args.self.now.shape.bounds (reservation_in c.row-row.result.now)) { kept = units })) c.units.ensures
    ∙ seen-row c.args.self.now.shape.bounds c.args.self.now.table.rows c.args.place (Some (row_in c.row-row.result.now)) c.row-row.ensures.row

pub returns-clause-row : goal.returns-clause-row
returns-clause-row c = here (goal.at.returns-clause-row c).After-units

pub returns-clause-stands : goal.returns-clause-stands
returns-clause-stands c = seen-stand c.args.self.now.shape (account_in c.args.self.now) c.args.place _ (here (goal.at.returns-clause-stands c).After-units)
