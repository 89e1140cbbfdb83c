use Rattle.std.proofs.Common.{[], ◌∷◌, ◌++◌, reverse}
use Rattle.std.specs.Prelude.{codes}
use Rattle.text_writer.specs.Lines.{whole_line}
use Rattle.channel_report.specs.Report.{report_of}
use Rattle.channel_report.specs.Schedule.{schedule_of}
use Rattle.tenet_app.proofs.RaceTexts.{then-written, stopped-within}
use Rattle.tenet_app.proofs.racing.write_race.Goals as goal

pub returns-in_err-write_line : goal.returns-in_err-write_line
returns-in_err-write_line g c = λ run tallied.
    stopped-within c.from_residual.result c.in_err-write_line.field-0.0 (g.K.Sink.written c.args.sink.now) (g.K.Sink.written c.write_line.new.sink) (g.K.Sink.faults c.args.sink.now) (g.K.Sink.faults c.write_line.new.sink) (whole_line (codes "schedule" ∷ [])) (schedule_of c.args.plan.now.callers c.args.told.schedule.items ++ (whole_line (codes "report" ∷ []) ++ report_of c.args.plan.now (reverse run) c.args.tally.packets)) c.from_residual.ensures.1 c.in_err-write_line.ensures

pub returns-in_err-write_schedule : goal.returns-in_err-write_schedule
returns-in_err-write_schedule g c = λ run tallied.
    then-written c.from_residual-in_err-write_schedule.result (g.K.Sink.written c.args.sink.now) (g.K.Sink.written c.write_line.new.sink) (g.K.Sink.written c.write_schedule.new.sink) (g.K.Sink.faults c.args.sink.now) (g.K.Sink.faults c.write_line.new.sink) (g.K.Sink.faults c.write_schedule.new.sink) (whole_line (codes "schedule" ∷ [])) (schedule_of c.args.plan.now.callers c.args.told.schedule.items ++ (whole_line (codes "report" ∷ []) ++ report_of c.args.plan.now (reverse run) c.args.tally.packets)) c.in_ok-write_line.ensures
    (stopped-within c.from_residual-in_err-write_schedule.result c.in_err-write_schedule.field-0.0 (g.K.Sink.written c.write_line.new.sink) (g.K.Sink.written c.write_schedule.new.sink) (g.K.Sink.faults c.write_line.new.sink) (g.K.Sink.faults c.write_schedule.new.sink) (schedule_of c.args.plan.now.callers c.args.told.schedule.items) (whole_line (codes "report" ∷ []) ++ report_of c.args.plan.now (reverse run) c.args.tally.packets) c.from_residual-in_err-write_schedule.ensures.1 c.in_err-write_schedule.ensures)

pub returns-in_err-write_line-2 : goal.returns-in_err-write_line-2
returns-in_err-write_line-2 g c = λ run tallied.
    then-written c.from_residual-in_err-write_line-2.result (g.K.Sink.written c.args.sink.now) (g.K.Sink.written c.write_line.new.sink) (g.K.Sink.written c.write_line-2.new.sink) (g.K.Sink.faults c.args.sink.now) (g.K.Sink.faults c.write_line.new.sink) (g.K.Sink.faults c.write_line-2.new.sink) (whole_line (codes "schedule" ∷ [])) (schedule_of c.args.plan.now.callers c.args.told.schedule.items ++ (whole_line (codes "report" ∷ []) ++ report_of c.args.plan.now (reverse run) c.args.tally.packets)) c.in_ok-write_line.ensures
    (then-written c.from_residual-in_err-write_line-2.result (g.K.Sink.written c.write_line.new.sink) (g.K.Sink.written c.write_schedule.new.sink) (g.K.Sink.written c.write_line-2.new.sink) (g.K.Sink.faults c.write_line.new.sink) (g.K.Sink.faults c.write_schedule.new.sink) (g.K.Sink.faults c.write_line-2.new.sink) (schedule_of c.args.plan.now.callers c.args.told.schedule.items) (whole_line (codes "report" ∷ []) ++ report_of c.args.plan.now (reverse run) c.args.tally.packets) c.in_ok-write_schedule.ensures
    (stopped-within c.from_residual-in_err-write_line-2.result c.in_err-write_line-2.field-0.0 (g.K.Sink.written c.write_schedule.new.sink) (g.K.Sink.written c.write_line-2.new.sink) (g.K.Sink.faults c.write_schedule.new.sink) (g.K.Sink.faults c.write_line-2.new.sink) (whole_line (codes "report" ∷ [])) (report_of c.args.plan.now (reverse run) c.args.tally.packets) c.from_residual-in_err-write_line-2.ensures.1 c.in_err-write_line-2.ensures))

pub returns : goal.returns
returns g c = λ run tallied.
    then-written c.write_tallied.result (g.K.Sink.written c.args.sink.now) (g.K.Sink.written c.write_line.new.sink) (g.K.Sink.written c.write_tallied.new.sink) (g.K.Sink.faults c.args.sink.now) (g.K.Sink.faults c.write_line.new.sink) (g.K.Sink.faults c.write_tallied.new.sink) (whole_line (codes "schedule" ∷ [])) (schedule_of c.args.plan.now.callers c.args.told.schedule.items ++ (whole_line (codes "report" ∷ []) ++ report_of c.args.plan.now (reverse run) c.args.tally.packets)) c.in_ok-write_line.ensures
    (then-written c.write_tallied.result (g.K.Sink.written c.write_line.new.sink) (g.K.Sink.written c.write_schedule.new.sink) (g.K.Sink.written c.write_tallied.new.sink) (g.K.Sink.faults c.write_line.new.sink) (g.K.Sink.faults c.write_schedule.new.sink) (g.K.Sink.faults c.write_tallied.new.sink) (schedule_of c.args.plan.now.callers c.args.told.schedule.items) (whole_line (codes "report" ∷ []) ++ report_of c.args.plan.now (reverse run) c.args.tally.packets) c.in_ok-write_schedule.ensures
    (then-written c.write_tallied.result (g.K.Sink.written c.write_schedule.new.sink) (g.K.Sink.written c.write_line-2.new.sink) (g.K.Sink.written c.write_tallied.new.sink) (g.K.Sink.faults c.write_schedule.new.sink) (g.K.Sink.faults c.write_line-2.new.sink) (g.K.Sink.faults c.write_tallied.new.sink) (whole_line (codes "report" ∷ [])) (report_of c.args.plan.now (reverse run) c.args.tally.packets) c.in_ok-write_line-2.ensures
    (c.write_tallied.ensures run tallied)))
