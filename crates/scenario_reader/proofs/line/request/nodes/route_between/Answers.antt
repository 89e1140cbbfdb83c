use Rattle.std.proofs.Common.{◌≡◌, Some, None, true, false, ap, sym, subst, ◌∙◌, arith}
use Rattle.route_finder.specs.Walks.{IsNetwork}
use Rattle.route_finder.specs.Finding.{Finds, Fails, IsUnreachable}
use Rattle.scenario_reader.specs.Nodes.{node_of}
use Rattle.scenario_reader.proofs.Finding.NodesByNumber.{are-network, node-same, node-known, named-equal, route-of}
use Rattle.scenario_reader.proofs.line.request.nodes.route_between.Goals as goal

pub least_route-requires-clause-apart : goal.least_route-requires-clause-apart
least_route-requires-clause-apart c same =
    let number : node_of c.args.links.now c.args.from.now ≡ node_of c.args.links.now c.args.to.now = sym c.node_of.ensures.value ∙ same ∙ c.node_of-2.ensures.value in
    let name = node-same 0 c.args.links.now c.args.from.now c.args.to.now c.requires.from c.requires.to number in
    let clash : true ≡ false = sym (named-equal c.args.to.now c.args.from.now name) ∙ c.requires.apart in
    cc

pub least_route-requires-clause-from : goal.least_route-requires-clause-from
least_route-requires-clause-from c = omega (arith, c.node_of.ensures.value, node-known 0 c.args.links.now c.args.from.now c.requires.from, c.requires.few)

pub least_route-requires-clause-to : goal.least_route-requires-clause-to
least_route-requires-clause-to c = omega (arith, c.node_of-2.ensures.value, node-known 0 c.args.links.now c.args.to.now c.requires.to, c.requires.few)

pub least_route-requires-clause-network : goal.least_route-requires-clause-network
least_route-requires-clause-network c = subst IsNetwork (sym (c.deref.ensures.value ∙ c.in_ok-edges.ensures)) (are-network c.args.links.now c.requires.numbered c.requires.few)

pub returns-in-Ok : goal.returns-in-Ok
returns-in-Ok c =
    let found : Finds c.deref.result.now c.node_of.result c.node_of-2.result c.in-Ok.found = c.in-Ok.ensures in
    ap Some found.is_route ∙ route-of c.args.links.now c.args.from.now c.args.to.now c.deref.result.now c.node_of.result c.node_of-2.result (Some found.walk)
    (c.deref.ensures.value ∙ c.in_ok-edges.ensures) c.node_of.ensures.value c.node_of-2.ensures.value found.is_walk

pub returns-in-Err-Unreachable : goal.returns-in-Err-Unreachable
returns-in-Err-Unreachable c =
    let none : IsUnreachable c.deref.result.now c.node_of.result c.node_of-2.result _ = subst (λ fault. Fails c.deref.result.now c.node_of.result c.node_of-2.result fault) c.in-Err-Unreachable.field-0-is c.in-Err-Unreachable.ensures in
    route-of c.args.links.now c.args.from.now c.args.to.now c.deref.result.now c.node_of.result c.node_of-2.result None
    (c.deref.ensures.value ∙ c.in_ok-edges.ensures) c.node_of.ensures.value c.node_of-2.ensures.value none.none
