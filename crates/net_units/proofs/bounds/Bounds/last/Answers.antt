use Rattle.std.proofs.Common.{length, arith}
use Rattle.net_units.proofs.BoundsInOrder.{bound-least, bounds-parts}
use Rattle.net_units.proofs.bounds.Bounds.last.Goals as goal

pub returns-clause-least : goal.returns-clause-least
returns-clause-least c =
    let bounds = c.as_slice-bounds.result.now in
    bound-least bounds (length bounds) c.as_slice-bounds.ensures.valid (bounds-parts bounds c.as_slice-bounds.ensures.valid).least (omega arith)
