use Rattle.std.proofs.Common.{◌*◌, ◌≡◌, ℕ, length, ap, ◌∙◌, refl, arith}
use Rattle.network_variants.specs.declared.variants.Change.{Change}
use Rattle.network_variants.proofs.Odometer.{counted-before, none-counted}
use Rattle.network_variants.proofs.making.counted.Goals as goal

pub loop-init : goal.loop-init
loop-init c = record { counted = none-counted c.new-changes.result.items c.new-changes.ensures.items; few = omega arith }

pub loop-preserved : goal.loop-preserved
loop-preserved c =
    let made = c.in-Some.made in
    let change : Change = record { name = made.name; shown = made.shown; words = made.words; every = c.loop.count } in
    let more : c.in-Some-checked_mul.more ≡ length made.words.items * c.loop.count = c.in-Some-checked_mul.ensures.1 ∙ ap (λ (n : ℕ). n * c.loop.count) (ap length c.as_slice.ensures.value) in
    record {
      counted = counted-before c.loop.changes.items c.insert.new.self.items change c.loop.count c.in-Some-checked_mul.more c.loop.invariant.counted refl more c.in_ok-insert.ensures.items;
      few = c.if-more-le-MOST_VARIANTS.true;
    }
