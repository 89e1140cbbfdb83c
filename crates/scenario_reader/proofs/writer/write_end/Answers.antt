use Rattle.scenario_reader.specs.line.Rounds.{rounds_text}
use Rattle.scenario_reader.specs.line.Schedule.{schedule_text}
use Rattle.scenario_reader.specs.PlanText.{end_text}
use Rattle.text_writer.proofs.TextsTold.{both-told, first-failed}
use Rattle.scenario_reader.proofs.writer.write_end.Goals as goal

pub returns-in_err-write_rounds : goal.returns-in_err-write_rounds
unfolding end_text
returns-in_err-write_rounds g c =
    let rounds = rw (c.rounds.ensures.value, c.tail.ensures.value) at c.in_err-write_rounds.ensures in
    first-failed c.from_residual.result c.in_err-write_rounds.field-0.0 _ _ c.args.out.now c.write_rounds.new.out _ _ (rounds_text c.args.plan.now.rounds c.args.plan.now.tail) (schedule_text c.args.plan.now.callers c.args.schedule.now) c.from_residual.ensures.1 rounds

pub returns : goal.returns
unfolding end_text
returns g c =
    let rounds = rw (c.rounds.ensures.value, c.tail.ensures.value) at c.in_ok-write_rounds.ensures in
    let schedule = rw c.callers.ensures.value at c.write_schedule.ensures in
    both-told c.write_schedule.result _ _ _ _ _ _ _ _ _ (rounds_text c.args.plan.now.rounds c.args.plan.now.tail) (schedule_text c.args.plan.now.callers c.args.schedule.now) rounds schedule
