use Rattle.std.proofs.Common.{◌∙◌, ap, refl}
use Rattle.scenario_reader.specs.AuditReading.{AuditSaid}
use Rattle.scenario_reader.proofs.Auditing.AuditKeeps.{accepted-from}
use Rattle.scenario_reader.proofs.audit.draft.AuditDraft.into_parts.Goals as goal

pub returns-clause-accepted : goal.returns-clause-accepted
returns-clause-accepted c = accepted-from c.into_plan-plan.result.0 c.self.inside.levels.items _ c.self.invariant (ap (λ (r : AuditSaid). r.place) c.self.view_is ∙ c.requires) c.into_plan-plan.ensures.plan refl
