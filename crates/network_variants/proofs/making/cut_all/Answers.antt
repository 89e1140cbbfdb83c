use Rattle.network_variants.proofs.CutLines.{none-cut, text-cut}
use Rattle.network_variants.proofs.making.cut_all.Goals as goal

pub loop-line-init : goal.loop-line-init
loop-line-init c = none-cut c.new-cuts.result.items c.new-cuts.ensures.items

pub loop-line-preserved : goal.loop-line-preserved
loop-line-preserved c =
    text-cut c.loop-line.cuts.items c.push.new.self.items c.in_ok-cut.field-0 c.args.lines.now c.line-item.result c.loop-line.line-index c.as_slice.result.now
    c.loop-line.invariant c.in_ok-cut.ensures c.as_slice.ensures.value c.loop-line-test.true c.line-item.is c.in_ok-push.ensures.items
