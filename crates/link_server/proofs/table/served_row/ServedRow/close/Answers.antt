-- Nothing is left that is planned.
use Rattle.std.proofs.Common.{refl}
use Rattle.link_steps.specs.Rows.{planned_from}
use Rattle.link_server.proofs.table.served_row.ServedRow.close.Goals as goal

pub returns-clause-row : goal.returns-clause-row
unfolding planned_from
returns-clause-row c = refl
