-- As many are left as are counted.
use Rattle.std.proofs.Common.{length, sym, ap, ◌∙◌}
use Rattle.link_server.proofs.Words.{QueueAccount}
use Rattle.link_server.proofs.queue.Queue.best_left.Goals as goal
use Rattle.link_steps.proofs.PlanRises.{planned-count}

pub returns : goal.returns
returns c =
    let best = c.self.inside.best in
    sym (planned-count best.tick best.gap best.size best.count) ∙ ap (λ (queue : QueueAccount). length queue.best) c.self.view_is
