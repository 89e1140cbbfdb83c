use Rattle.std.proofs.Common.{Ok}
use Rattle.channel_report.specs.Schedule.{schedule_of}
use Rattle.text_writer.proofs.TextsTold.{end-failed, ended}
use Rattle.channel_report.proofs.schedule.write_schedule.Goals as goal

pub returns-in_err-finish : goal.returns-in_err-finish
returns-in_err-finish g c =
    end-failed c.from_residual-in_err-finish.result _ (g.K.Sink.written c.tell_items.new.sink) _ c.tell_items.new.gather _ (g.K.Sink.faults c.tell_items.new.sink) _ (schedule_of c.args.plan.now.callers c.args.schedule.now.items) c.from_residual-in_err-finish.ensures.1
    (rw (c.in_ok-gather.ensures, c.as_slice.ensures) at c.in_ok-tell_items.ensures) c.in_err-finish.ensures

pub returns : goal.returns
returns g c =
    ended _ (g.K.Sink.written c.tell_items.new.sink) _ c.tell_items.new.gather _ (g.K.Sink.faults c.tell_items.new.sink) _ (schedule_of c.args.plan.now.callers c.args.schedule.now.items) (Ok tt)
    (rw (c.in_ok-gather.ensures, c.as_slice.ensures) at c.in_ok-tell_items.ensures) c.in_ok-finish.ensures
