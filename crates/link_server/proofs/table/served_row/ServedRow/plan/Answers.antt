-- No packets were left, so what is planned is all.
use Rattle.std.proofs.Common.{List, ap}
use Rattle.link_server.proofs.Words.{AccountRow, SourcePacket, planned_from, ServedRow, row_in}
use Rattle.link_server.specs.Planned.{left_in}
use Rattle.link_server.proofs.Calendars.Planning.{after-none}
use Rattle.link_server.proofs.table.served_row.ServedRow.plan.Goals as goal

-- the row with other packets planned
abbrev with_left : ServedRow → List SourcePacket → AccountRow
with_left row left = record (row_in row) { left = left }

pub returns-clause-row : goal.returns-clause-row
returns-clause-row c =
    ap (with_left c.args.self.now)
    (after-none (left_in c.args.self.now.planned) (planned_from c.args.planned.tick c.args.planned.gap c.args.planned.size c.args.planned.count) c.requires)
