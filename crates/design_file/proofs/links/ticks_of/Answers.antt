use Rattle.design_file.specs.Rounded.{bound_of}
use Rattle.design_file.proofs.links.ticks_of.Goals as goal
use Rattle.net_units.proofs.ListSteps.{mapped-all}

pub returns : goal.returns
returns c = mapped-all (bound_of c.args.scale.now.tick) c.args.levels.now c.loop-level.level-index c.loop-level.ticks.items c.loop-level-test.false c.loop-level.invariant
