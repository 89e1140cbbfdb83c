-- As many packets are left as are counted.
use Rattle.std.proofs.Common.{sym, ap, ◌∙◌}
use Rattle.link_server.proofs.Words.{busy}
use Rattle.link_server.proofs.table.served_row.ServedRow.busy.Goals as goal
use Rattle.link_steps.proofs.PlanRises.{planned-count}

pub returns : goal.returns
returns c =
    c.busy_with.ensures
    ∙ ap busy (sym (planned-count c.args.self.now.planned.tick c.args.self.now.planned.gap c.args.self.now.planned.size c.args.self.now.planned.count))
