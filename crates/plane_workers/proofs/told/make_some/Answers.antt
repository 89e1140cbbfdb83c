-- The link rests for so many ticks, which tell nothing.
use Rattle.plane_workers.proofs.LinkTells.{rest-behind}
use Rattle.plane_workers.proofs.told.make_some.Goals as goal

pub returns-then-ticks-gt0-clause-tells : goal.returns-then-ticks-gt0-clause-tells
returns-then-ticks-gt0-clause-tells g c = rest-behind c.args.link.now c.rest.new.link c.min-ticks.result c.args.told.now.items c.rest.ensures
