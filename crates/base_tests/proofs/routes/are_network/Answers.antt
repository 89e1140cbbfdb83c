use Rattle.std.proofs.Common.{◌≡◌, suc, ◌-◌, ◌<◌, length, drop, sym, subst, ◌∙◌, arith}
use Rattle.route_finder.proofs.EdgeByEdge.{IsNetworkFrom, network-none, network-more}
use Rattle.base_tests.proofs.routes.are_network.Goals as goal

pub loop-index-init : goal.loop-index-init
loop-index-init c = network-none c.args.edges.now (length c.args.edges.now) 32 (omega arith)

pub loop-index-preserved : goal.loop-index-preserved
loop-index-preserved c =
    let edges = c.args.edges.now in
    let index = c.loop-index.index - 1 in
    let edge = c.index-edges-index.result in
    let next : c.loop-index.index ≡ suc index = omega (arith, c.loop-index-test.true) in
    let rest : IsNetworkFrom (drop (suc index) edges) c.loop-index.above = subst (λ i. IsNetworkFrom (drop i edges) c.loop-index.above) next c.loop-index.invariant in
    subst (IsNetworkFrom (drop index edges)) (sym c.get-above.ensures.value)
    (network-more edges index c.loop-index.above edge (omega (arith, c.loop-index.auto.index, c.loop-index-test.true)) (sym c.index-edges-index.is)
    (omega (arith, c.if-edge-ge64.false)) (omega (arith, c.if-edge-ge64-2.false)) (omega (arith, c.get.ensures.value, c.if-get-above.false)) rest)
