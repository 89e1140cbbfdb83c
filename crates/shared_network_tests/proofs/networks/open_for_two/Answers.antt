use Rattle.std.proofs.Common.{◌∷◌, length, sym, ap, ◌∙◌, arith}
use Rattle.shared_network.proofs.WorkedNetworks.{seats-are, passes-are, first-new, first-actor, second-new, second-actor}
use Rattle.shared_network_tests.proofs.networks.open_for_two.Goals as goal

pub open-requires-clause-seats : goal.open-requires-clause-seats
open-requires-clause-seats g c κs within = seats-are g.H.Home.table 2 (length g.H.Home.links) c.args.opened.1.items c.args.opened.2.items c.requires.seats c.requires.passes

pub open-requires-clause-passes : goal.open-requires-clause-passes
open-requires-clause-passes g c κs within = passes-are g.H.Home.table 2 c.args.opened.2.items c.requires.passes

pub returns-clause-new : goal.returns-clause-new
returns-clause-new g c =
    let split = ap (λ ps. c.in-Some.first ∷ ps) (sym c.in-Some-next.ensures.items) ∙ sym c.in-Some.ensures.items ∙ c.into_iter-passes.ensures.rest in (
      first-new g.H.Home.table g.H.Home.owners g.H.Home.links 2 c.args.opened.2.items c.requires.passes c.in_ok-network.passes.items _ c.in-Some.first split c.in_ok-network.ensures.passes,
      second-new g.H.Home.table g.H.Home.owners g.H.Home.links 2 c.args.opened.2.items c.requires.passes c.in_ok-network.passes.items _ c.in-Some.first c.in-Some-next.second split c.in_ok-network.ensures.passes,
    )

pub returns-clause-actors : goal.returns-clause-actors
returns-clause-actors g c =
    let split = ap (λ ps. c.in-Some.first ∷ ps) (sym c.in-Some-next.ensures.items) ∙ sym c.in-Some.ensures.items ∙ c.into_iter-passes.ensures.rest in (
      first-actor g.H.Home.table g.H.Home.owners g.H.Home.links 2 c.args.opened.2.items c.requires.passes c.in_ok-network.passes.items _ c.in-Some.first split c.in_ok-network.ensures.actors (omega arith),
      second-actor g.H.Home.table g.H.Home.owners g.H.Home.links 2 c.args.opened.2.items c.requires.passes c.in_ok-network.passes.items _ c.in-Some.first c.in-Some-next.second split c.in_ok-network.ensures.actors (omega arith),
    )
