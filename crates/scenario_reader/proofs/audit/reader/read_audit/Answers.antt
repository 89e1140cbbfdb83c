use Rattle.std.specs.Prelude.{IfErr}
use Rattle.scenario_reader.specs.AuditReading.{AuditRead, audit_reading}
use Rattle.scenario_reader.specs.AuditSteps.{AuditBytes, RefusesReading, audits}
use Rattle.scenario_reader.proofs.Auditing.AuditEnd.{may-end, table-end}
use Rattle.scenario_reader.proofs.Passing.ReadingAhead.{comes-to, tells-handed}
use Rattle.scenario_reader.proofs.audit.reader.read_audit.Goals as goal

pub into_parts-requires : goal.into_parts-requires
into_parts-requires g c = may-end _ c.in_ok-read_lines.ensures.whole

pub returns-in_err-read_lines-clause-refused : goal.returns-in_err-read_lines-clause-refused
unfolding audit_reading
returns-in_err-read_lines-clause-refused g c =
    tells-handed c.from_residual-in_err-read_lines.result c.in_err-read_lines.field-0.0 (λ r. IfErr r (λ why. AuditBytes (g.S.Source.left c.args.source.now) (RefusesReading why))) c.from_residual-in_err-read_lines.ensures.1 c.in_err-read_lines.ensures.told

pub returns-clause-told : goal.returns-clause-told
unfolding audit_reading
returns-clause-told g c =
    let said = c.read_lines.new.draft in
    comes-to audits (g.S.Source.left c.args.source.now) said (AuditRead _ _ _) c.in_ok-read_lines.ensures.told
    (λ count. table-end _ count said _ _ _ (may-end _ c.in_ok-read_lines.ensures.whole) c.into_parts.ensures.plan c.into_parts.ensures.levels c.into_parts.ensures.rows)
