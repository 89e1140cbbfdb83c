use Rattle.std.proofs.Common.{rules}
use Rattle.std.proofs.lemmas.List.{nil_from_length}
use Rattle.std.specs.List.{flat_map}
use Rattle.std.specs.Slice.Iter.{chunks_rest}
use Rattle.channel_report.specs.Table.{header, told_row}
use Rattle.channel_report.proofs.PagesTold.{head-told, page-failed, page-told, pages-told}
use Rattle.text_writer.proofs.TextsTold.{first-failed}
use Rattle.channel_report.proofs.table.tell_table.Goals as goal

pub returns-in_err-tell_page : goal.returns-in_err-tell_page
returns-in_err-tell_page g c =
    first-failed c.from_residual.result c.in_err-tell_page.field-0.0 _ _ c.args.gather.now c.tell_page.new.gather _ _ header (flat_map (told_row c.args.plan.now) c.args.rows.now) c.from_residual.ensures.1 (c.in_err-tell_page.ensures header c.header_page.ensures)

pub loop-page-init : goal.loop-page-init
loop-page-init g c = record {
  goes = search rules;
  ends = search rules;
  told = head-told (told_row c.args.plan.now) header c.args.rows.now (chunks_rest c.into_iter-page-iterator.result) _ (g.K.Sink.written c.tell_page.new.sink) _ c.tell_page.new.gather _ (g.K.Sink.faults c.tell_page.new.sink) (search rules) (c.in_ok-tell_page.ensures header c.header_page.ensures);
}

pub loop-page-preserved : goal.loop-page-preserved
loop-page-preserved g c =
    let line = told_row c.args.plan.now in record {
      goes = search rules;
      ends = search rules;
      told = page-told line header c.args.rows.now _ c.in-Some.page.now (chunks_rest c.next.new.self) _ (g.K.Sink.written c.loop-page.sink) _ c.args.gather.now c.loop-page.gather c.tell_page-in-loop-page.new.gather _ (g.K.Sink.faults c.loop-page.sink) _
          c.in-Some.ensures.steps.1.0 c.loop-page.invariant.told (c.in_ok-tell_page-2.ensures (flat_map line c.in-Some.page.now) c.rows_page.ensures);
    }

pub returns-in_err-tell_page-2 : goal.returns-in_err-tell_page-2
returns-in_err-tell_page-2 g c =
    let line = told_row c.args.plan.now in
    page-failed line header c.args.rows.now _ c.in-Some.page.now (chunks_rest c.next.new.self) _ (g.K.Sink.written c.loop-page.sink) _ c.args.gather.now c.loop-page.gather c.tell_page-in-loop-page.new.gather _ (g.K.Sink.faults c.loop-page.sink) _
    c.from_residual-in_err-tell_page-2.result c.in_err-tell_page-2.field-0.0 c.from_residual-in_err-tell_page-2.ensures.1 c.in-Some.ensures.steps.1.0 c.loop-page.invariant.told (c.in_err-tell_page-2.ensures (flat_map line c.in-Some.page.now) c.rows_page.ensures)

pub returns : goal.returns
returns g c =
    pages-told (told_row c.args.plan.now) header c.args.rows.now (chunks_rest c.loop-page.page-iterator) _ _ _ _ _ _ (nil_from_length _ c.in-None.ensures.steps.1.0) c.loop-page.invariant.told
