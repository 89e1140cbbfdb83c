use Rattle.std.proofs.Common.{length, ap, arith}
use Rattle.net_units.proofs.BoundsInOrder.{bound-least}
use Rattle.net_units.proofs.bounds.Bounds.at.Goals as goal

pub returns-clause-least : goal.returns-clause-least
returns-clause-least c =
    bound-least c.as_slice.result.now c.get.result c.as_slice.ensures.valid c.get.ensures.least (omega (arith, ap length c.as_slice.ensures.value))
