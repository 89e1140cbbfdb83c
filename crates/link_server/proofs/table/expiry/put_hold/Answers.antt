-- A row that waits for a packet wants no entry yet.
use Rattle.link_server.proofs.Words.{row_in}
use Rattle.link_server.proofs.Calendars.Holds.{open-listed}
use Rattle.link_server.proofs.table.expiry.put_hold.Goals as goal

pub returns-in_default-clause-own : goal.returns-in_default-clause-own
returns-in_default-clause-own c = λ none. open-listed c.args.bounds.now c.args.clock c.args.holds.now.entries (row_in c.args.row.now) none c.in_default.ensures.none
