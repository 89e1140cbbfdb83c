-- The link rests until the tick that it keeps, or else until the first of what is due by its rows and packets.
use Rattle.std.proofs.Common.{ap, subst}
use Rattle.link_steps.specs.Quiet.{ServiceRests}
use Rattle.traffic_contract.specs.Admission.{Server}
use Rattle.link_server.proofs.Words.{Each, RowRests, TableAccount}
use Rattle.link_server.proofs.link_state.LinkState.rests_until.Goals as goal

pub returns-then-self : goal.returns-then-self
returns-then-self c = c.args.self.now.rests c.if-self.true

pub returns : goal.returns
returns c =
    let link = c.args.self.now in
    record {
      rows = subst (λ (server : Server). Each (RowRests server.bounds link.clock c.next_due.result) link.table.rows) (ap (λ (table : TableAccount). table.server) link.of_shape) (c.next_due.ensures.rows link.clock link.looked.0);
      best = c.next_due.ensures.best;
      service = subst (λ rate. ServiceRests rate c.next_due.result link.queue.here link.queue.on) link.same_rate c.next_due.ensures.service;
    }
