-- Links in a row are a route.
use Rattle.load_maker.proofs.LoopsMakeLoad.{never, route-there}
use Rattle.load_maker.proofs.links.route.Goals as goal

pub unreachable-requires : goal.unreachable-requires
unreachable-requires c =
    never (c.in-Err.ensures.found.1 (route-there c.args.first c.args.hops c.hop.result c.hop-2.result c.hop-3.result c.hop-4.result c.hop.ensures c.hop-2.ensures c.hop-3.ensures c.hop-4.ensures c.requires.some c.requires.within))
