use Rattle.load_table.proofs.WorkOfRows.{contracts-more, contracts-all}
use Rattle.load_table.proofs.window.see_contracts.Goals as goal

pub loop-row-preserved : goal.loop-row-preserved
loop-row-preserved c = contracts-more c.args.rows.now c.loop-row.row-index c.row-item.result c.loop-row-test.true c.row-item.is c.burst-burst.ensures.valid c.loop-row.invariant

pub returns : goal.returns
returns c = contracts-all c.args.rows.now c.loop-row.row-index c.loop-row-test.false c.loop-row.invariant
