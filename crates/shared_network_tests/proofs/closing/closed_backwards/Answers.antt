use Rattle.std.proofs.Common.{sym, subst}
use Rattle.shared_network.specs.Gathering.{AreAll}
use Rattle.shared_network.proofs.WorkedNetworks.{two-backwards}
use Rattle.shared_network_tests.proofs.closing.closed_backwards.Goals as goal

pub close-requires-clause-all : goal.close-requires-clause-all
close-requires-clause-all g c κs within =
    subst (AreAll g.H.Home.table g.H.Home.owners g.H.Home.links) (sym c.in_ok-passes.ensures)
    (two-backwards g.H.Home.table g.H.Home.owners g.H.Home.links c.in_ok-network.first c.in_ok-network.second c.in_ok-network.ensures.new.0 c.in_ok-network.ensures.new.1 c.in_ok-network.ensures.actors.0 c.in_ok-network.ensures.actors.1)
