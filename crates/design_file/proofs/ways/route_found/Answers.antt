use Rattle.std.proofs.Common.{◌≡◌, Some, true, false, sym, ◌∙◌}
use Rattle.scenario_reader.specs.Nodes.{is_node, route_between}
use Rattle.scenario_reader.proofs.Finding.NodesByNumber.{found-route, named-equal}
use Rattle.design_file.proofs.ways.route_found.Goals as goal

pub returns-in-Some : goal.returns-in-Some
returns-in-Some c =
    let on : route_between c.args.links.now c.args.from.now c.args.to.now ≡ Some c.in-Some.route = sym c.in_ok-route.ensures ∙ c.in-Some.is in
    let known : is_node c.args.links.now c.args.from.now ≡ true = sym c.is_node.ensures ∙ c.if-not-is_node.false in
    let known' : is_node c.args.links.now c.args.to.now ≡ true = sym c.is_node-else-not-is_node.ensures ∙ c.if-not-is_node-2.false in
    record {
      on = on;
      follows =
          (found-route c.args.links.now c.args.from.now c.args.to.now c.in-Some.route c.requires.numbered c.requires.few known known'
          (λ same. let clash : true ≡ false = sym (named-equal c.args.to.now c.args.from.now same) ∙ sym c.eq.ensures ∙ c.if-eq.false in cc) on).way.follows;
    }
