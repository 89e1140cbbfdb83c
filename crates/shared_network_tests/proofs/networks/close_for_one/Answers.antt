use Rattle.std.proofs.Common.{sym, subst}
use Rattle.shared_network.specs.Gathering.{AreAll}
use Rattle.shared_network.proofs.WorkedNetworks.{one-all}
use Rattle.shared_network_tests.proofs.networks.close_for_one.Goals as goal

pub close-requires-clause-all : goal.close-requires-clause-all
close-requires-clause-all g c κs within =
    subst (AreAll g.H.Home.table g.H.Home.owners g.H.Home.links) (sym c.in_ok-passes.ensures) (one-all g.H.Home.table g.H.Home.owners g.H.Home.links c.args.pass c.requires.may c.requires.among c.requires.actor)
