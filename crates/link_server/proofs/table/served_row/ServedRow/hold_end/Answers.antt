-- A closing row waits for no packet where it brings none, or where it has taken all.
use Rattle.std.proofs.Common.{arith}
use Rattle.link_server.proofs.Words.{row_in}
use Rattle.link_server.proofs.Calendars.Holds.{ends-at-once, ends-after}
use Rattle.link_server.proofs.table.served_row.ServedRow.hold_end.Goals as goal

pub returns-in-Closing-clause-some : goal.returns-in-Closing-clause-some
returns-in-Closing-clause-some c = ends-at-once c.args.bounds.now c.args.clock (row_in c.args.self.now) c.in-Closing.is c.if-self-eq0.true

pub returns-in-Closing-2-clause-some : goal.returns-in-Closing-2-clause-some
returns-in-Closing-2-clause-some c =
    let last = c.args.self.now.newest in
    ends-after c.args.bounds.now c.args.clock c.max.result (row_in c.args.self.now) c.in-Closing.is c.if-self-eq0.false c.if-self.true
    (omega (arith, c.max.ensures)) (omega (arith, c.max.ensures, last, c.from.ensures, c.last.ensures.value))
    (λ t from over. omega (arith, from, over, c.max.ensures, last, c.from.ensures, c.last.ensures.value))
