use Rattle.std.specs.Slice.Iter.{chunks_rest}
use Rattle.channel_report.specs.Table.{header, told_row}
use Rattle.channel_report.proofs.PagesTold.{ToldUpTo}
use Rattle.channel_report.proofs.table.tell_table.Given as goal

-- the header is told, and the rows on the pages so far
abbrev pub invariant-loop-page : goal.invariant-loop-page
invariant-loop-page g l = record {
  goes : (goal.iterator-loop-page g).can_next l.page-iterator;
  ends : (goal.iterator-loop-page g).is_finite l.page-iterator;
  told : ToldUpTo (told_row l.plan) header l.rows (chunks_rest l.page-iterator) (g.K.Sink.written l.fn.sink) (g.K.Sink.written l.sink) l.fn.gather l.gather (g.K.Sink.faults l.fn.sink) (g.K.Sink.faults l.sink);
}
