use Rattle.std.proofs.Common.{◌++◌, length, reverse, sym, subst}
use Rattle.channel_report.specs.Report.{end_line, link_lines, table_if}
use Rattle.channel_report.specs.Tallies.{AreLinkTallies}
use Rattle.text_writer.proofs.TextsTold.{first-failed, both-told}
use Rattle.channel_report.proofs.report.tell_network.Goals as goal

pub returns-in_err-tell_links : goal.returns-in_err-tell_links
returns-in_err-tell_links g c = λ entries found.
    let links = subst (AreLinkTallies (length c.args.plan.now.links) (reverse entries)) (sym c.as_slice.ensures.value) found.links in
    first-failed c.from_residual.result c.in_err-tell_links.field-0.0 _ _ c.args.gather.now c.tell_links.new.gather _ _ (link_lines c.args.plan.now (reverse entries)) (end_line (length entries) ++ table_if c.args.findings.now.packets c.args.plan.now entries) c.from_residual.ensures.1 (c.in_err-tell_links.ensures (reverse entries) links)

pub returns : goal.returns
returns g c = λ entries found.
    let links = subst (AreLinkTallies (length c.args.plan.now.links) (reverse entries)) (sym c.as_slice.ensures.value) found.links in
    both-told c.tell_steps.result _ (g.K.Sink.written c.tell_links.new.sink) _ c.args.gather.now c.tell_links.new.gather c.tell_steps.new.gather _ (g.K.Sink.faults c.tell_links.new.sink) _ (link_lines c.args.plan.now (reverse entries)) (end_line (length entries) ++ table_if c.args.findings.now.packets c.args.plan.now entries)
    (c.in_ok-tell_links.ensures (reverse entries) links) (c.tell_steps.ensures entries found)
