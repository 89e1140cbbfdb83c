use Rattle.std.proofs.Common.{◌-◌, length}
use Rattle.shared_network.proofs.CallSteps.TeardownGoesOn.{TearingDown}
use Rattle.shared_network.proofs.network.Network.teardown.Given as goal

abbrev pub invariant-loop-link : goal.invariant-loop-link
invariant-loop-link g l = TearingDown g.H.Home.table g.H.Home.owners g.H.Home.links l.request l.fn.pass l.pass l.teardown l.count

abbrev pub decreases-loop-link : goal.decreases-loop-link
decreases-loop-link g l = length l.teardown.route - l.teardown.made
