use Rattle.std.proofs.Common.{◌≡◌, ◌∙◌, ap, length, subst, sym, true}
use Rattle.scenario_reader.specs.AuditKept.{IsAuditDraft}
use Rattle.scenario_reader.specs.AuditReading.{AuditSaid, audit_said, report_begun}
use Rattle.scenario_reader.specs.Drafts.{is_complete}
use Rattle.scenario_reader.specs.declared.audit.place.Section.TheVariants as place
use Rattle.scenario_reader.proofs.Auditing.AuditKeeps.{none-given, report-kept}
use Rattle.scenario_reader.proofs.audit.draft.AuditDraft.begin_report.Goals as goal

pub invariant_of-self : goal.invariant_of-self
invariant_of-self c =
    let said = c.self.inside.draft in
    let rows = c.self.inside.rows.items in
    let complete : is_complete c.self.inside.draft ≡ true = ap (λ (r : AuditSaid). is_complete r.said) c.self.view_is ∙ c.requires in
    subst (λ levels. IsAuditDraft (audit_said c.self.inside.draft place.Report levels c.self.inside.rows.items))
    (sym (none-given _ c.request_count.result (length said.requests) c.in_ok-self-inside.ensures c.request_count.ensures))
    (report-kept said rows complete c.self.invariant.small)

pub returns : goal.returns
returns c =
    ap (λ levels. audit_said c.self.inside.draft place.Report levels c.self.inside.rows.items) (none-given _ c.request_count.result (length c.self.inside.draft.requests) c.in_ok-self-inside.ensures c.request_count.ensures)
    ∙ ap report_begun c.self.view_is
