use Rattle.std.proofs.Common.{rules}
use Rattle.scenario_reader.specs.Reading.{PlanRead, reading}
use Rattle.scenario_reader.specs.ReadSteps.{TellsReading, scenarios}
use Rattle.scenario_reader.proofs.Passing.ReadingAhead.{comes-to, complete-end, may-end, tells-handed}
use Rattle.scenario_reader.proofs.reader.read_plan.Goals as goal

pub into_plan-requires : goal.into_plan-requires
into_plan-requires g c = let complete = may-end c.read_lines.new.draft c.in_ok-read_lines.ensures.whole in search rules

pub returns-in_err-read_lines-clause-told : goal.returns-in_err-read_lines-clause-told
unfolding reading
returns-in_err-read_lines-clause-told g c =
    tells-handed c.from_residual-in_err-read_lines.result c.in_err-read_lines.field-0.0 (λ r. TellsReading r (g.S.Source.left c.args.source.now)) c.from_residual-in_err-read_lines.ensures.1 c.in_err-read_lines.ensures.told

pub returns-clause-told : goal.returns-clause-told
unfolding reading
returns-clause-told g c =
    let said = c.read_lines.new.draft in
    comes-to scenarios (g.S.Source.left c.args.source.now) said (PlanRead c.into_plan.result.0 c.into_plan.result.1) c.in_ok-read_lines.ensures.told
    (λ count. complete-end count said c.into_plan.result.0 c.into_plan.result.1 (may-end said c.in_ok-read_lines.ensures.whole) c.into_plan.ensures.plan c.into_plan.ensures.items)
