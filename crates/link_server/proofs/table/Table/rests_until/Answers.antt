-- The calendars tell until when each row rests.
use Rattle.std.proofs.Common.{map, sym, ap, subst, arith}
use Rattle.link_server.proofs.Words.{Each, RowRests, TableAccount, row_in}
use Rattle.link_server.proofs.LinkRests.{all-from, listed-later, rows-rest}
use Rattle.link_server.proofs.table.Table.rests_until.Goals as goal

pub returns : goal.returns
returns c = λ clock looked.
    let t = c.self.inside in
    let seen = ap (λ (table : TableAccount). table.looked) c.self.view_is in
    let listed = listed-later t.bounds t.looked clock t.holds (map row_in t.rows.items) (omega (arith, seen, looked)) c.self.invariant.listed in
    let rest = rows-rest t.bounds clock c.min.result t.holds t.plans.calendar t.rows.items
    (all-from c.min.result c.rests_until.result t.holds.entries (omega (arith, c.min.ensures)) c.rests_until.ensures)
    (all-from c.min.result c.rests_until-2.result t.plans.calendar.entries (omega (arith, c.min.ensures)) c.rests_until-2.ensures)
    listed.listed c.self.invariant.planned.told in
    subst (λ (table : TableAccount). Each (RowRests table.server.bounds clock c.min.result) table.rows) c.self.view_is
    (subst (λ bounds. Each (RowRests bounds clock c.min.result) (map row_in t.rows.items)) (sym c.self.invariant.same_bounds) rest)
