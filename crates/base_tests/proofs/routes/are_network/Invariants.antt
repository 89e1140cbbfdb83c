use Rattle.std.proofs.Common.{drop}
use Rattle.route_finder.proofs.EdgeByEdge.{IsNetworkFrom}
use Rattle.base_tests.proofs.routes.are_network.Given as goal

abbrev pub invariant-loop-index : goal.invariant-loop-index
invariant-loop-index l = IsNetworkFrom (drop l.index l.edges) l.above
