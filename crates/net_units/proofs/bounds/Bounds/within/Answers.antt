use Rattle.std.proofs.Common.{◌≡◌, ap, ◌∙◌, arith}
use Rattle.net_units.specs.LevelBounds.{levels_within}
use Rattle.net_units.proofs.BoundsInOrder.{within-count, within-most, level-fits, level-largest}
use Rattle.net_units.proofs.bounds.Bounds.within.Goals as goal

pub known-requires-clause-most : goal.known-requires-clause-most
known-requires-clause-most c =
    omega (arith, c.count_within.ensures, within-most c.as_slice.result.now c.args.x c.as_slice.ensures.valid)

pub returns-in_default-clause-fits : goal.returns-in_default-clause-fits
returns-in_default-clause-fits c =
    let e : c.known.result.number ≡ levels_within c.args.self.now c.args.x =
    c.known.ensures ∙ c.count_within.ensures ∙ ap (λ bs. levels_within bs c.args.x) c.as_slice.ensures.value in
    (omega (arith, e, within-count c.args.self.now c.args.x), level-fits c.args.self.now c.args.x c.known.result.number e c.known.result.least)

pub returns-in_default-clause-largest : goal.returns-in_default-clause-largest
returns-in_default-clause-largest c other past within =
    let e : c.known.result.number ≡ levels_within c.args.self.now c.args.x =
    c.known.ensures ∙ c.count_within.ensures ∙ ap (λ bs. levels_within bs c.args.x) c.as_slice.ensures.value in
    level-largest c.args.self.now c.args.x c.known.result.number other (rw c.as_slice.ensures.value at c.as_slice.ensures.valid) e past within
