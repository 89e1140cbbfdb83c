use Rattle.std.proofs.Common.{length}
use Rattle.channel_move.specs.Standing.{move_of}
use Rattle.shared_network.proofs.CallSteps.MoveSteps.{asks_left}
use Rattle.shared_network.proofs.CallSteps.MoveGoesOn.{Shifting}
use Rattle.shared_network.proofs.network.Network.shift.Given as goal

abbrev pub invariant-loop-link : goal.invariant-loop-link
invariant-loop-link g l = Shifting g.H.Home.table g.H.Home.owners g.H.Home.links (move_of l.fn.mover) l.fn.pass l.pass l.mover

abbrev pub decreases-loop-link : goal.decreases-loop-link
decreases-loop-link g l = asks_left (length l.mover.leaving_route) l.mover.stage
