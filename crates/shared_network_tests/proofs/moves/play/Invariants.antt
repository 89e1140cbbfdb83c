use Rattle.std.proofs.Common.{◌≡◌, length}
use Rattle.shared_network.specs.Planes.{IsPlanes}
use Rattle.shared_network.specs.Ready.{MayStep}
use Rattle.shared_network_tests.proofs.moves.play.Given as goal

-- the pass may step, and the plane is its
abbrev pub invariant-loop : goal.invariant-loop
invariant-loop g l = record {
  may_step : MayStep g.H.Home.table g.H.Home.owners g.H.Home.links l.pass;
  links : l.plane.links ≡ length g.H.Home.links;
  planes : IsPlanes (length g.H.Home.links) l.plane l.pass.own;
}
