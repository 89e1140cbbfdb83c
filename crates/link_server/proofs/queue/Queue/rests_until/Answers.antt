-- The lesser of two ticks is before each of them.
use Rattle.std.proofs.Common.{ap, subst, arith}
use Rattle.link_server.proofs.Words.{Each, QueueAccount}
use Rattle.link_server.specs.Planned.{IsPlannedFrom}
use Rattle.link_server.proofs.LinkRests.{plans-from, service-from}
use Rattle.link_server.proofs.queue.Queue.rests_until.Goals as goal

pub returns-clause-service : goal.returns-clause-service
returns-clause-service c =
    service-from c.args.self.now.rate c.min.result c.service_rests_until.result c.args.self.now.here c.args.self.now.on (omega (arith, c.min.ensures)) c.service_rests_until.ensures

pub returns-clause-best : goal.returns-clause-best
returns-clause-best c =
    subst (Each (IsPlannedFrom c.min.result)) (ap (λ (queue : QueueAccount). queue.best) c.self.view_is)
    (plans-from c.min.result c.rests_until.result _ (omega (arith, c.min.ensures)) c.rests_until.ensures)
