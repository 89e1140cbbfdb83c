use Rattle.shared_network.proofs.CallSteps.SetupUnderWay.{SettingUp, setup_left}
use Rattle.shared_network.proofs.network.Network.setup.Given as goal

abbrev pub invariant-loop-link : goal.invariant-loop-link
invariant-loop-link g l = SettingUp g.H.Home.table g.H.Home.owners g.H.Home.links l.request l.fn.pass l.pass l.setup

abbrev pub decreases-loop-link : goal.decreases-loop-link
decreases-loop-link g l = setup_left l.setup
