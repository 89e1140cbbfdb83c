use Rattle.std.proofs.Common.{sym, ◌∙◌, arith, length}
use Rattle.shared_network.proofs.WorkedNetworks.{seats-are, passes-are, first-new, first-actor}
use Rattle.shared_network_tests.proofs.networks.open_for_one.Goals as goal

pub open-requires-clause-seats : goal.open-requires-clause-seats
open-requires-clause-seats g c κs within = seats-are g.H.Home.table 1 (length g.H.Home.links) c.args.opened.1.items c.args.opened.2.items c.requires.seats c.requires.passes

pub open-requires-clause-passes : goal.open-requires-clause-passes
open-requires-clause-passes g c κs within = passes-are g.H.Home.table 1 c.args.opened.2.items c.requires.passes

pub returns-clause-new : goal.returns-clause-new
returns-clause-new g c =
    first-new g.H.Home.table g.H.Home.owners g.H.Home.links 1 c.args.opened.2.items c.requires.passes c.in_ok-network.passes.items _ c.in-Some.pass (sym c.in-Some.ensures.items ∙ c.into_iter.ensures.rest) c.in_ok-network.ensures.passes

pub returns-clause-actor : goal.returns-clause-actor
returns-clause-actor g c =
    first-actor g.H.Home.table g.H.Home.owners g.H.Home.links 1 c.args.opened.2.items c.requires.passes c.in_ok-network.passes.items _ c.in-Some.pass (sym c.in-Some.ensures.items ∙ c.into_iter.ensures.rest) c.in_ok-network.ensures.actors (omega arith)
