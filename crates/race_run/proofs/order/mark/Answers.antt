use Rattle.std.proofs.Common.{refl}
use Rattle.race_run.proofs.Weave.StampTable.{marked-none, marked-more}
use Rattle.race_run.proofs.order.mark.Goals as goal

pub loop-entry-init : goal.loop-entry-init
loop-entry-init c = marked-none c.args.number c.args.order.now.items

pub loop-entry-preserved : goal.loop-entry-preserved
loop-entry-preserved c =
    marked-more c.args.number c.args.entries.now c.loop-entry.entry-index c.entry-item.result c.args.order.now.items c.loop-entry.order.items _ c.loop-entry-test.true c.entry-item.is c.requires c.loop-entry.invariant refl
