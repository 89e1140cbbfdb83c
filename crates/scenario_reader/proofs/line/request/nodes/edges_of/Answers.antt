use Rattle.std.proofs.Common.{◌++◌, ◌∷◌, [], map, take, ap, sym, ◌∙◌}
use Rattle.scenario_reader.specs.Nodes.{edge_over}
use Rattle.scenario_reader.proofs.Finding.NodeSteps.{edges-more, edges-all}
use Rattle.scenario_reader.proofs.line.request.nodes.edges_of.Goals as goal

pub loop-entry-preserved : goal.loop-entry-preserved
loop-entry-preserved c =
    c.in_ok-push.ensures.items
    ∙ ap (λ edges. edges ++ c.edge_over.result ∷ []) c.loop-entry.invariant
    ∙ ap (λ edge. map (edge_over c.args.links.now) (take c.loop-entry.entry-index c.args.links.now) ++ edge ∷ []) c.edge_over.ensures
    ∙ edges-more c.args.links.now c.loop-entry.entry-index c.entry-item.result c.loop-entry-test.true (sym c.entry-item.is)

pub returns : goal.returns
returns c = c.loop-entry.invariant ∙ edges-all c.args.links.now c.loop-entry.entry-index c.loop-entry-test.false
