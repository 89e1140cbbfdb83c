use Rattle.std.proofs.Common.{Ok}
use Rattle.scenario_reader.specs.PlanText.{plan_text}
use Rattle.text_writer.proofs.TextsTold.{end-failed, ended}
use Rattle.scenario_reader.proofs.writer.write_plan.Goals as goal

pub returns-in_err-finish : goal.returns-in_err-finish
returns-in_err-finish g c =
    end-failed c.from_residual-in_err-finish.result _ (g.K.Sink.written c.write_lines.new.sink) _ c.write_lines.new.out _ (g.K.Sink.faults c.write_lines.new.sink) _ (plan_text c.args.plan.now c.args.schedule.now) c.from_residual-in_err-finish.ensures.1 (rw c.in_ok-out.ensures at c.in_ok-write_lines.ensures) c.in_err-finish.ensures

pub returns : goal.returns
returns g c =
    ended _ (g.K.Sink.written c.write_lines.new.sink) _ c.write_lines.new.out _ (g.K.Sink.faults c.write_lines.new.sink) _ (plan_text c.args.plan.now c.args.schedule.now) (Ok tt) (rw c.in_ok-out.ensures at c.in_ok-write_lines.ensures) c.in_ok-finish.ensures
