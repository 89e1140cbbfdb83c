-- Only a closing row's hold ends, and that by what is left to wait for.
use Rattle.std.proofs.Common.{◌∙◌}
use Rattle.link_server.proofs.Words.{reservation_in}
use Rattle.link_server.proofs.Calendars.HoldEnds.{hold-open, hold-closing}
use Rattle.link_server.proofs.table.served_row.ServedRow.has_ended.Goals as goal

pub returns-in-Tentative : goal.returns-in-Tentative
returns-in-Tentative c = hold-open c.args.bounds.now (reservation_in c.args.self.now) c.args.self.now.taken c.args.self.now.last c.args.clock c.in-Tentative.is

pub returns-in-Closing : goal.returns-in-Closing
returns-in-Closing c =
    hold-closing c.args.bounds.now (reservation_in c.args.self.now) c.args.self.now.taken c.args.self.now.last c.from.result c.args.clock c.due.result c.in-Closing.is (c.from.ensures ∙ c.last.ensures.value) c.due.ensures.exact
