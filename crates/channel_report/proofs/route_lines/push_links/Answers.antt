use Rattle.std.proofs.Common.{◌++◌, ◌∷◌, string_bytes, ap, ◌∙◌, arith}
use Rattle.channel_report.proofs.RouteLine.{hops-more, hops-all}
use Rattle.channel_report.proofs.route_lines.push_links.Goals as goal

pub loop-index-preserved : goal.loop-index-preserved
loop-index-preserved c =
    hops-more c.args.links.now c.args.route.now c.loop-index.index c.hop.result (string_bytes c.args.text.now) (string_bytes c.loop-index.text) _ c.hop.ensures.value c.loop-index.invariant
    (c.in_ok-write.ensures.bytes ∙ ap (λ name. string_bytes c.loop-index.text ++ 32 ∷ name) c.link_name-name.ensures)

pub returns : goal.returns
returns c = hops-all c.args.links.now c.args.route.now c.loop-index.index (string_bytes c.args.text.now) (string_bytes c.loop-index.text) (omega arith) c.loop-index.invariant
