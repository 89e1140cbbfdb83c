use Rattle.std.proofs.Common.{◌++◌, sym, ap, ◌∙◌, List, ℕ}
use Rattle.channel_report.specs.Table.{told_row}
use Rattle.channel_report.proofs.table.page.rows_page.Goals as goal
use Rattle.text_writer.proofs.TextsTold.{flat-more}

pub loop-row-preserved : goal.loop-row-preserved
loop-row-preserved c =
    let line = told_row c.args.plan.now in record {
      at_row = c.in_ok-write_row.ensures.at_row;
      text = c.in_ok-write_row.ensures.text ∙ ap (λ (text : List ℕ). text ++ line c.row-item.result) c.loop-row.invariant.text ∙ sym (flat-more line c.args.rows.now c.loop-row.row-index c.row-item.result c.loop-row-test.true c.row-item.is);
    }
