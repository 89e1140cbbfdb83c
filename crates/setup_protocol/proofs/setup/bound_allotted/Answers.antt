use Rattle.std.proofs.Common.{arith}
use Rattle.net_units.specs.Allotted.{levels_of}
use Rattle.net_units.specs.Numbers.{level_number}
use Rattle.setup_protocol.proofs.RouteLevels.{level-at}
use Rattle.setup_protocol.proofs.setup.bound_allotted.Goals as goal

pub at-requires-in_default : goal.at-requires-in_default
at-requires-in_default c = level-at c.args.route.now (levels_of c.args.levels.now) c.args.place (level_number c.at.result) c.hop.result c.requires.levels (omega (arith, c.in_default)) c.requires.place c.hop.ensures.value c.at.ensures
