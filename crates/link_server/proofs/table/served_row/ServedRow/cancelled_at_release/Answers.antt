-- As many packets are left as are counted.
use Rattle.std.proofs.Common.{sym}
use Rattle.link_server.proofs.table.served_row.ServedRow.cancelled_at_release.Goals as goal
use Rattle.link_steps.proofs.PlanRises.{planned-count}

pub returns-in-None : goal.returns-in-None
returns-in-None c =
    let count = planned-count c.args.self.now.planned.tick c.args.self.now.planned.gap c.args.self.now.planned.size c.args.self.now.planned.count in
    rw c.in-None.is (sym count)
