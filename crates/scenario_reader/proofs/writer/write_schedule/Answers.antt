use Rattle.std.proofs.Common.{rules}
use Rattle.std.specs.List.{flat_map}
use Rattle.text_writer.specs.Lines.{whole_line}
use Rattle.scenario_reader.specs.line.Schedule.{schedule_fields, do_text}
use Rattle.scenario_reader.proofs.Back.TextOfParts.{schedule-text, no-schedule-text}
use Rattle.text_writer.proofs.TextsTold.{told-nothing, both-told, first-failed}
use Rattle.scenario_reader.proofs.writer.write_schedule.Goals as goal

pub returns-then-not-schedule : goal.returns-then-not-schedule
returns-then-not-schedule g c = rw (no-schedule-text c.args.callers.now c.args.schedule.now (search rules)) at
    (told-nothing (g.K.Sink.written c.args.sink.now) c.args.out.now (g.K.Sink.faults c.args.sink.now))

pub returns-in_err-tell_line : goal.returns-in_err-tell_line
returns-in_err-tell_line g c =
    let line = c.in_err-tell_line.ensures.told (whole_line schedule_fields) c.schedule_line.ensures in
    rw (schedule-text c.args.callers.now c.args.schedule.now (search rules)) at
    (first-failed c.from_residual.result c.in_err-tell_line.field-0.0 _ _ c.args.out.now c.tell_line.new.gather _ _ (whole_line schedule_fields) (flat_map (do_text c.args.callers.now) c.args.schedule.now.items) c.from_residual.ensures.1 line)

pub returns : goal.returns
returns g c =
    let line = c.in_ok-tell_line.ensures.told (whole_line schedule_fields) c.schedule_line.ensures in
    let items = rw c.as_slice.ensures at c.write_items.ensures in
    rw (schedule-text c.args.callers.now c.args.schedule.now (search rules)) at
    (both-told c.write_items.result _ _ _ _ _ _ _ _ _ (whole_line schedule_fields) (flat_map (do_text c.args.callers.now) c.args.schedule.now.items) line items)
