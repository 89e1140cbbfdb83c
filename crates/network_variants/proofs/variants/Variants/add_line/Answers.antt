use Rattle.std.proofs.Common.{List, ℕ, ◌++◌, ap, ◌∙◌}
use Rattle.network_variants.specs.Variants.{line_in, word_at}
use Rattle.network_variants.proofs.Written.{next-place, places-end}
use Rattle.network_variants.proofs.variants.Variants.add_line.Goals as goal

pub loop-place-preserved : goal.loop-place-preserved
loop-place-preserved c =
    let says = word_at c.args.self.now.changes.items c.args.number in
    next-place says c.deref-place-items.result.now c.args.line.now.back.items (c.args.text.now.items ++ line_in says c.args.line.now)
    c.loop-place.text.items c.extend_from_slice.new.self.items c.extend_from_slice-in-loop-place.new.self.items c.loop-place.place-index c.place-item.result
    c.loop-place-test.true c.place-item.is c.loop-place.invariant
    (c.in_ok-extend_from_slice.ensures.items ∙ ap (λ (xs : List ℕ). c.loop-place.text.items ++ xs) c.as_slice.ensures.value)
    (c.in_ok-extend_from_slice-2.ensures.items ∙ ap (λ (xs : List ℕ). c.extend_from_slice.new.self.items ++ xs) c.word_at.ensures)

pub returns : goal.returns
returns c =
    let says = word_at c.args.self.now.changes.items c.args.number in
    c.in_ok-extend_from_slice-3.ensures.items ∙ ap (λ (xs : List ℕ). c.loop-place.text.items ++ xs) c.as_slice-2.ensures.value
    ∙ places-end says c.deref-place-items.result.now c.args.line.now.back.items (c.args.text.now.items ++ line_in says c.args.line.now) c.loop-place.text.items c.loop-place.place-index
    c.loop-place-test.false c.loop-place.invariant
