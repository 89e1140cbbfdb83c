-- The lesser of two ticks is before each of them.
use Rattle.std.proofs.Common.{◌≤◌, ℕ, List, arith}
use Rattle.link_server.proofs.Words.{AccountRow, RowRests}
use Rattle.link_steps.proofs.SearchAndFilter.{Each-if}
use Rattle.link_server.proofs.LinkRests.{plans-from, service-from}
use Rattle.link_server.proofs.tick.resting.next_due.Goals as goal

row-from : (bounds : List ℕ) (clock until least : ℕ) (row : AccountRow) → until ≤ least → RowRests bounds clock least row → RowRests bounds clock until row
row-from bounds clock until least row less rests = record {
  plans = plans-from until least row.left less rests.plans;
  stays = λ t from before. rests.stays t from (omega (arith, before, less));
}

pub returns-clause-rows : goal.returns-clause-rows
returns-clause-rows c = λ clock looked.
    let table = c.args.table.now in
    Each-if (RowRests table.server.bounds clock c.rests_until-2.result) (RowRests table.server.bounds clock c.min.result) table.rows (λ row rests. row-from table.server.bounds clock c.min.result c.rests_until-2.result row (omega (arith, c.min.ensures)) rests) (c.rests_until-2.ensures clock looked)

pub returns-clause-best : goal.returns-clause-best
returns-clause-best c = plans-from c.min.result c.rests_until.result c.args.queue.now.best (omega (arith, c.min.ensures)) c.rests_until.ensures.best

pub returns-clause-service : goal.returns-clause-service
returns-clause-service c = service-from c.args.queue.now.rate c.min.result c.rests_until.result c.args.queue.now.here c.args.queue.now.on (omega (arith, c.min.ensures)) c.rests_until.ensures.service
