use Rattle.std.proofs.Common.{length, sym, subst}
use Rattle.shared_network.specs.Gathering.{AreAll}
use Rattle.shared_network.proofs.WorkedNetworks.{passes-are, seats-are}
use Rattle.step_stamp.specs.Opening.{AreLinks}
use Rattle.network_tour.proofs.TourConditions.{opened-first, opened-second, opened-two, two-all}
use Rattle.network_tour.proofs.by_network.run_over.Goals as goal

pub open-requires-clause-seats : goal.open-requires-clause-seats
open-requires-clause-seats g c κs within =
    subst (λ n. AreLinks g.H.Home.table (length c.args.opened.2.items) n c.args.opened.1.items) (sym c.requires.tour.two)
    (seats-are g.H.Home.table 2 2 c.args.opened.1.items c.args.opened.2.items c.requires.seats c.requires.passes)

pub open-requires-clause-passes : goal.open-requires-clause-passes
open-requires-clause-passes g c κs within = passes-are g.H.Home.table 2 c.args.opened.2.items c.requires.passes

pub pair-first-requires : goal.pair-first-requires
pair-first-requires g c = opened-two c.args.opened.2.items g.H.Home.table c.in_ok-network.passes.items c.requires.passes c.in_ok-network.ensures.actors

pub make-requires-clause-first : goal.make-requires-clause-first
make-requires-clause-first g c κs within =
    opened-first g.H.Home.table g.H.Home.owners g.H.Home.links c.args.opened.2.items c.in_ok-network.passes.items c.pair-first.result.0 c.pair-first.result.1 c.requires.passes c.pair-first.ensures c.in_ok-network.ensures.passes c.in_ok-network.ensures.actors

pub make-requires-clause-second : goal.make-requires-clause-second
make-requires-clause-second g c κs within =
    opened-second g.H.Home.table g.H.Home.owners g.H.Home.links c.args.opened.2.items c.in_ok-network.passes.items c.pair-first.result.0 c.pair-first.result.1 c.requires.passes c.pair-first.ensures c.in_ok-network.ensures.passes c.in_ok-network.ensures.actors

pub close-requires-clause-all : goal.close-requires-clause-all
close-requires-clause-all g c κs within =
    subst (AreAll g.H.Home.table g.H.Home.owners g.H.Home.links) (sym c.in_ok-passes.ensures.items)
    (two-all g.H.Home.table g.H.Home.owners g.H.Home.links c.in_ok-verdict.first c.in_ok-verdict.second c.in_ok-verdict.ensures.first c.in_ok-verdict.ensures.second)
