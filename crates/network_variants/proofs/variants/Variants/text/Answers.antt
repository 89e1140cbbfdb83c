use Rattle.network_variants.specs.Variants.{text_in, word_at}
use Rattle.network_variants.proofs.Written.{lines-end, next-line}
use Rattle.network_variants.proofs.variants.Variants.text.Goals as goal

pub loop-line-preserved : goal.loop-line-preserved
loop-line-preserved c =
    let says = word_at c.args.self.now.changes.items c.args.number in
    next-line says c.deref-line-items.result.now (text_in says c.args.self.now.lines.items) c.loop-line.text.items c.add_line.new.text.items c.loop-line.line-index c.line-item.result
    c.loop-line-test.true c.line-item.is c.loop-line.invariant c.in_ok-add_line.ensures

pub returns : goal.returns
returns c =
    let says = word_at c.args.self.now.changes.items c.args.number in
    lines-end says c.deref-line-items.result.now (text_in says c.args.self.now.lines.items) c.loop-line.text.items c.loop-line.line-index c.loop-line-test.false c.loop-line.invariant
